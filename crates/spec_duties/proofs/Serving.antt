-- What is left of the reports of a wait: calls only take from it.
use Rattle.std.proofs.Common.{◌≡◌, ℕ, ◌&&◌, ◌||◌, not, Bool, true, false, List, [], ◌∷◌, ◌++◌, Option, refl, sym, ◌∙◌, ap}
use Rattle.poll_list.specs.Listing.{reads, writes}
use Rattle.poll_list.specs.declared.Want.{Want}
use Rattle.poll_list.specs.declared.Who.{Who}
use Rattle.world_face.specs.Journal.{Entry, Wait}
use Rattle.world_face.specs.Frames.{partial}
use Rattle.world_face.specs.Tells.{Telling, Brings}
use Rattle.world_face.specs.declared.Waited.{Waited}
use Rattle.slirp_settings.specs.Addresses.{Config}
use Rattle.spec_trace.specs.Moments.{waits}
use Rattle.spec_flow.proofs.Refuting.{never_false}
use Rattle.spec_run.proofs.Bools.{first_of}
use Rattle.spec_duties.specs.Said.{Throughout, some_reads, some_writes}
use Rattle.spec_duties.specs.Serving.{AllServed, IsServed, is_left_to_read, is_left_to_write, read_after, serves_reading, serves_writing, write_after}
use Rattle.spec_duties.specs.Waiting.{is_read, is_written}
use Rattle.spec_duties.proofs.Going.{is_wait, none_waits, stays_below}

-- ---- truth values

ends_false : (a b : Bool) → b ≡ false → (a && b) ≡ false
ends_false true b is = is
ends_false false b is = refl

begins_false : (a b : Bool) → a ≡ false → (a && b) ≡ false
begins_false true b is = absurd cc
begins_false false b is = refl

both_true : (a b : Bool) → a ≡ true → b ≡ true → (a && b) ≡ true
both_true true true one two = refl
both_true true false one two = absurd cc
both_true false b one two = absurd cc

taken : (a b : Bool) → b ≡ true → (a && not b) ≡ false
taken true true is = refl
taken false true is = refl
taken a false is = absurd cc

unless : (a b : Bool) → (b ≡ true → a ≡ true) → a ≡ false → b ≡ false
unless a true f is = absurd (never_false (sym (f refl) ∙ is))
unless a false f is = refl

-- ---- what isn't waited for isn't to be served

pub unread : (config : Config) (past : List Entry) (who : Who) → is_read config past who ≡ false → is_left_to_read config past who ≡ false
unread config [] who is = refl
unread config (e ∷ past) who is = ends_false (read_after who e (partial past) (is_left_to_read config past who)) (is_read config (e ∷ past) who) is

pub unwritten : (config : Config) (past : List Entry) (who : Who) → is_written config past who ≡ false → is_left_to_write config past who ≡ false
unwritten config [] who is = refl
unwritten config (e ∷ past) who is = ends_false (write_after who e (is_left_to_write config past who)) (is_written config (e ∷ past) who) is

-- ---- a call leaves what it doesn't serve, and nothing else

read_is : (who : Who) (e : Entry) (so_far : List ℕ) (left : Bool) → is_wait e ≡ false → read_after who e so_far left ≡ (left && not (serves_reading who e so_far))
read_is who (Wait wants timeout answer ready) so_far left calm = absurd (never_false calm)
read_is who _ so_far left calm = refl

write_is : (who : Who) (e : Entry) (left : Bool) → is_wait e ≡ false → write_after who e left ≡ (left && not (serves_writing who e))
write_is who (Wait wants timeout answer ready) left calm = absurd (never_false calm)
write_is who _ left calm = refl

-- what is left was left before
read_before : (config : Config) (e : Entry) (past : List Entry) (who : Who) → is_wait e ≡ false → is_left_to_read config (e ∷ past) who ≡ true → is_left_to_read config past who ≡ true
read_before config e past who calm is =
    first_of (is_left_to_read config past who) (not (serves_reading who e (partial past)))
    (sym (read_is who e (partial past) (is_left_to_read config past who) calm) ∙ first_of (read_after who e (partial past) (is_left_to_read config past who)) (is_read config (e ∷ past) who) is)

write_before : (config : Config) (e : Entry) (past : List Entry) (who : Who) → is_wait e ≡ false → is_left_to_write config (e ∷ past) who ≡ true → is_left_to_write config past who ≡ true
write_before config e past who calm is =
    first_of (is_left_to_write config past who) (not (serves_writing who e))
    (sym (write_is who e (is_left_to_write config past who) calm) ∙ first_of (write_after who e (is_left_to_write config past who)) (is_written config (e ∷ past) who) is)

pub read_left : (config : Config) (made past : List Entry) (who : Who) → waits (made ++ past) ≡ waits past → is_left_to_read config (made ++ past) who ≡ true → is_left_to_read config past who ≡ true
read_left config [] past who same is = is
read_left config (e ∷ made) past who same is = read_left config made past who (stays_below e made past same) (read_before config e (made ++ past) who (none_waits e made past same) is)

pub write_left : (config : Config) (made past : List Entry) (who : Who) → waits (made ++ past) ≡ waits past → is_left_to_write config (made ++ past) who ≡ true →
    is_left_to_write config past who ≡ true
write_left config [] past who same is = is
write_left config (e ∷ made) past who same is = write_left config made past who (stays_below e made past same) (write_before config e (made ++ past) who (none_waits e made past same) is)

-- what is served stays so until the next wait
pub reading_on : (config : Config) (made past : List Entry) (who : Who) → waits (made ++ past) ≡ waits past → is_left_to_read config past who ≡ false → is_left_to_read config
    (made ++ past) who ≡ false
reading_on config made past who same = unless (is_left_to_read config past who) (is_left_to_read config (made ++ past) who) (read_left config made past who same)

pub writing_on : (config : Config) (made past : List Entry) (who : Who) → waits (made ++ past) ≡ waits past → is_left_to_write config past who ≡ false → is_left_to_write config
    (made ++ past) who ≡ false
writing_on config made past who same = unless (is_left_to_write config past who) (is_left_to_write config (made ++ past) who) (write_left config made past who same)

pub served_on : (config : Config) (made past : List Entry) (who : Who) → waits (made ++ past) ≡ waits past → IsServed config past who → IsServed config (made ++ past) who
served_on config made past who same served = record { reading = reading_on config made past who same served.reading; writing = writing_on config made past who same served.writing }

pub all_served_on : (config : Config) (made past : List Entry) → waits (made ++ past) ≡ waits past → AllServed config past → AllServed config (made ++ past)
all_served_on config made past same all who = served_on config made past who same (all who)

-- ---- a call that serves it

read_by : (config : Config) (e : Entry) (past : List Entry) (who : Who) → is_wait e ≡ false → serves_reading who e (partial past) ≡ true → is_left_to_read config (e ∷ past) who ≡ false
read_by config e past who calm is =
    begins_false (read_after who e (partial past) (is_left_to_read config past who)) (is_read config (e ∷ past) who)
    (read_is who e (partial past) (is_left_to_read config past who) calm ∙ taken (is_left_to_read config past who) (serves_reading who e (partial past)) is)

write_by : (config : Config) (e : Entry) (past : List Entry) (who : Who) → is_wait e ≡ false → serves_writing who e ≡ true → is_left_to_write config (e ∷ past) who ≡ false
write_by config e past who calm is =
    begins_false (write_after who e (is_left_to_write config past who)) (is_written config (e ∷ past) who)
    (write_is who e (is_left_to_write config past who) calm ∙ taken (is_left_to_write config past who) (serves_writing who e) is)

-- one of the calls since a past does
pub read_since : (config : Config) (made past : List Entry) (who : Who) → waits (made ++ past) ≡ waits past → some_reads who past made ≡ true → is_left_to_read config (made ++ past) who ≡ false
read_since config [] past who same is = absurd cc
read_since config (e ∷ made) past who same is = by (serves_reading who e (partial (made ++ past))) refl (read_since config made past who (stays_below e made past same)) is
  where
    calm : is_wait e ≡ false
    calm = none_waits e made past same

    by : (b : Bool) → serves_reading who e (partial (made ++ past)) ≡ b → (some_reads who past made ≡ true → is_left_to_read config (made ++ past) who ≡ false) →
        (b || some_reads who past made) ≡ true → is_left_to_read config (e ∷ made ++ past) who ≡ false
    by true serves rest one = read_by config e (made ++ past) who calm serves
    by false serves rest one = unless (is_left_to_read config (made ++ past) who) (is_left_to_read config (e ∷ made ++ past) who) (read_before config e (made ++ past) who calm) (rest one)

pub write_since : (config : Config) (made past : List Entry) (who : Who) → waits (made ++ past) ≡ waits past → some_writes who made ≡ true → is_left_to_write config (made ++ past) who ≡ false
write_since config [] past who same is = absurd cc
write_since config (e ∷ made) past who same is = by (serves_writing who e) refl (write_since config made past who (stays_below e made past same)) is
  where
    calm : is_wait e ≡ false
    calm = none_waits e made past same

    by : (b : Bool) → serves_writing who e ≡ b → (some_writes who made ≡ true → is_left_to_write config (made ++ past) who ≡ false) → (b || some_writes who made) ≡ true →
        is_left_to_write config (e ∷ made ++ past) who ≡ false
    by true serves rest one = write_by config e (made ++ past) who calm serves
    by false serves rest one = unless (is_left_to_write config (made ++ past) who) (is_left_to_write config (e ∷ made ++ past) who) (write_before config e (made ++ past) who calm) (rest one)

-- ---- whatever brings one thing from another, as often as the run waited before, leaves what was served

pub served_by : (config : Config) (old new : Telling) (Before After : List Entry → Type 0) → ((past made : List Entry) → Before past → After (made ++ past) → waits (made ++ past) ≡ waits past)
    → Brings old new Before After → Brings old new (λ past. Before past × AllServed config past) (λ past. After past × AllServed config past)
served_by config old new Before After same b = record {
  made = b.made;
  same = b.same;
  allowed = b.allowed;
  told = b.told;
  counted = b.counted;
  brings = λ past before. let after = b.brings past before.0 in (after, all_served_on config b.made past (same past b.made before.0 after) before.1);
}

-- ---- from a wait to the next

is_so : (b : Bool) → (b ≡ false → ⊥) → b ≡ true
is_so true f = refl
is_so false f = absurd (f refl)

or_first : (a b : Bool) → (a || b) ≡ false → a ≡ false
or_first true b is = absurd cc
or_first false b is = refl

or_second : (a b : Bool) → (a || b) ≡ false → b ≡ false
or_second true b is = absurd cc
or_second false b is = is

module _ (config : Config) (who : Who) (wants : List Want) (timeout : Option ℕ) (answer : Waited) (ready : List Want) (past : List Entry) where
  abbrev begun : List Entry
  begun = Wait wants timeout answer ready ∷ past

  -- as long as no call serves it, and it is waited for
  stays_to_read : (made : List Entry) → Throughout (λ p. is_read config p who ≡ true) begun made → waits (made ++ begun) ≡ waits begun → (reads who wants && reads who ready) ≡ true
      → some_reads who begun made ≡ false → is_left_to_read config (made ++ begun) who ≡ true
  stays_to_read [] asked same reported unmet = both_true (reads who wants && reads who ready) (is_read config begun who) reported asked
  stays_to_read (e ∷ made) asked same reported unmet =
      let before = stays_to_read made asked.1 (stays_below e made begun same) reported (or_second (serves_reading who e (partial (made ++ begun))) (some_reads who begun made) unmet) in
      let not_by : not (serves_reading who e (partial (made ++ begun))) ≡ true = ap not (or_first (serves_reading who e (partial (made ++ begun))) (some_reads who begun made) unmet) in
      both_true (read_after who e (partial (made ++ begun)) (is_left_to_read config (made ++ begun) who)) (is_read config (e ∷ made ++ begun) who)
      (read_is who e (partial (made ++ begun)) (is_left_to_read config (made ++ begun) who) (none_waits e made begun same) ∙ both_true (is_left_to_read config (made ++ begun) who)
      (not (serves_reading who e (partial (made ++ begun)))) before not_by) asked.0

  stays_to_write : (made : List Entry) → Throughout (λ p. is_written config p who ≡ true) begun made → waits (made ++ begun) ≡ waits begun → (writes who wants && writes who ready) ≡ true
      → some_writes who made ≡ false → is_left_to_write config (made ++ begun) who ≡ true
  stays_to_write [] asked same reported unmet = both_true (writes who wants && writes who ready) (is_written config begun who) reported asked
  stays_to_write (e ∷ made) asked same reported unmet =
      let before = stays_to_write made asked.1 (stays_below e made begun same) reported (or_second (serves_writing who e) (some_writes who made) unmet) in
      let not_by : not (serves_writing who e) ≡ true = ap not (or_first (serves_writing who e) (some_writes who made) unmet) in
      both_true (write_after who e (is_left_to_write config (made ++ begun) who)) (is_written config (e ∷ made ++ begun) who)
      (write_is who e (is_left_to_write config (made ++ begun) who) (none_waits e made begun same) ∙ both_true (is_left_to_write config (made ++ begun) who)
      (not (serves_writing who e)) before not_by) asked.0

  -- so where nothing is left at the next wait a call served it
  pub is_read_then : (made : List Entry) → AllServed config (made ++ begun) → waits (made ++ begun) ≡ waits begun → reads who wants ≡ true → reads who ready ≡ true
      → Throughout (λ p. is_read config p who ≡ true) begun made → some_reads who begun made ≡ true
  is_read_then made served same wanted reported asked = is_so (some_reads who begun made)
      (λ unmet. never_false (sym (stays_to_read made asked same (both_true (reads who wants) (reads who ready) wanted reported) unmet) ∙ (served who).reading))

  pub is_written_then : (made : List Entry) → AllServed config (made ++ begun) → waits (made ++ begun) ≡ waits begun → writes who wants ≡ true → writes who ready ≡ true
      → Throughout (λ p. is_written config p who ≡ true) begun made → some_writes who made ≡ true
  is_written_then made served same wanted reported asked = is_so (some_writes who made)
      (λ unmet. never_false (sym (stays_to_write made asked same (both_true (writes who wants) (writes who ready) wanted reported) unmet) ∙ (served who).writing))
