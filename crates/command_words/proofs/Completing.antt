-- Words that can go on begin a reading: what is missing is put behind them.
use Rattle.std.proofs.Common.{◌≡◌, ◌<◌, Bool, true, false, cond, not, ◌&&◌, ◌||◌, List, [], ◌∷◌, ◌++◌, length, bytes_eq, codes, Option, Some, None, MatchOption, is_some, refl, sym, ◌∙◌, ap}
use Rattle.std.proofs.Common.{subst, arith, append_assoc, append-nil}
use Rattle.std.specs.Fmt.{digits}
use Rattle.std.specs.Option.{option_map}
use Rattle.world_face.specs.Journal.{AtPath}
use Rattle.command_words.specs.declared.Tap.{Tap}
use Rattle.command_words.specs.declared.Tap.TheVariants.{Off, Record, Capture}
use Rattle.command_words.specs.declared.options.Kind.{Kind}
use Rattle.command_words.specs.declared.options.Kind.TheVariants.{Nothing, Text, Short, Number, Address, AddressPort, Network, Link}
use Rattle.command_words.specs.declared.options.Verb.{Verb}
use Rattle.command_words.specs.declared.options.Verb.TheVariants.{Replay, Serve}
use Rattle.command_words.specs.Meaning.{is_capture, is_record}
use Rattle.command_words.specs.Options.{Word, Given, has_value, is_dashed, kind_of, repeated, single, takes_value, value_in}
use Rattle.address_text.specs.Rules.{AreGuestForwards, AreRuleWords, guest_words}
use Rattle.slirp_settings.specs.declared.GuestFwd.{GuestFwd}
use Rattle.command_words.specs.Stops.{BeginsOne}
use Rattle.slirp_settings.specs.declared.Denial.{Denial}
use Rattle.command_words.specs.Texts.{AreDenials}
use Rattle.command_words.specs.Values.{CanHave}
use Rattle.address_text.specs.Texts.{address_text, endpoint_text}
use Rattle.command_words.specs.Walking.{AreGiven, AreWanted, Fits, Walk, Walks, finished, fresh, has_link, is_both, may_stand, next, step, walk_on, walked}
use Rattle.command_words.proofs.Given.{more_given}
use Rattle.command_words.proofs.Good.{still_good}
use Rattle.command_words.proofs.Meant.{IsLinkAt, ReplayMeant, ServeMeant, replay_means, serve_means}
use Rattle.command_words.proofs.Names.{same_text}
use Rattle.command_words.proofs.Proper.{still_proper}
use Rattle.command_words.proofs.Reading.{denials_of, settings_of, value_read}
use Rattle.command_words.proofs.Settled.{with_forwards}
use Rattle.command_words.proofs.Single.{both_single, single_given, single_value}
use Rattle.command_words.proofs.Steps.{apart_step, at, given, joined_step, plain_step, put_fresh, waiting}
use Rattle.command_words.proofs.Wanted.{after_step}
use Rattle.command_words.proofs.Whole.{words_are_guests, words_are_rules}

-- one word more
walk_append : (a b : List Word) (w : Walk) → walk_on (a ++ b) w ≡ next (walk_on b) (walk_on a w)
walk_append [] b w = refl
walk_append (word ∷ words) b w = by_step (walk_append words b) (step w word)
  where
    by_step : ((v : Walk) → walk_on (words ++ b) v ≡ next (walk_on b) (walk_on words v)) → (o : Option Walk) → next (walk_on (words ++ b)) o ≡ next (walk_on b) (next (walk_on words) o)
    by_step rest None = refl
    by_step rest (Some v) = rest v

abbrev one_more : (verb : Verb) (words : List Word) (w : Walks verb words) (word : Word) (v : Walk) → step w.walk word ≡ Some v → Fits w.walk word → Walks verb (words ++ word ∷ [])
one_more verb words w word v is fits = record {
  walk = v;
  walks = walk_append words (word ∷ []) (fresh verb) ∙ ap (next (walk_on (word ∷ []))) w.walks ∙ ap (next (walk_on [])) is;
  verb_is = (after_step w.walk v word is).verb ∙ w.verb_is;
  good = still_good w.walk v word is w.good fits;
  proper = still_proper w.walk v word is w.proper;
}

abbrev none_more : (verb : Verb) (words : List Word) → Walks verb words → Walks verb (words ++ [])
none_more verb words w = record {
  walk = w.walk;
  walks = ap (λ (l : List Word). walk_on l (fresh verb)) (append-nil words) ∙ w.walks;
  verb_is = w.verb_is;
  good = w.good;
  proper = w.proper;
}

finishes : (verb : Verb) (words : List Word) (w : Walks verb words) → w.walk.waits ≡ None → walked verb words ≡ Some w.walk
finishes verb words w none = ap (next finished) w.walks ∙ ap (λ (o : Option Word). cond (is_some o) None (Some w.walk)) none

-- a value for each kind
pub record Sample (kind : Kind) : Type 0 where
  pub value : Word
  pub some : 0 < length value
  pub plain : is_dashed value ≡ false
  pub can : CanHave kind value

sample : (kind : Kind) → Sample kind
unfolding digits address_text endpoint_text
sample Nothing = record { value = codes "0"; some = omega arith; plain = refl; can = tt }
sample Text = record { value = codes "0"; some = omega arith; plain = refl; can = tt }
sample Short = record { value = codes "0"; some = omega arith; plain = refl; can = (0, (refl, omega arith)) }
sample Number = record { value = codes "0"; some = omega arith; plain = refl; can = (0, (refl, omega arith)) }
sample Address = record { value = codes "0.0.0.0"; some = omega arith; plain = refl; can = (0, (refl, omega arith)) }
sample AddressPort = record { value = codes "0.0.0.0:0"; some = omega arith; plain = refl; can = (record { addr = record { 0 = 0 }; port = 0 }, (refl, (omega arith, omega arith))) }
sample Network = record { value = codes "0.0.0.0/0"; some = omega arith; plain = refl; can = (0, 0, (0, refl, omega arith, omega arith, refl)) }
sample Link = record { value = codes "unix:s"; some = omega arith; plain = refl; can = (AtPath (codes "s"), (refl, (omega arith, omega arith))) }

-- an option with a value is neither of the flags of which one at most stands
or_false : (b c : Bool) → c ≡ false → b || c ≡ b
or_false true c h = refl
or_false false c h = h

no_flag : (verb : Verb) (name flag : Word) → takes_value verb name ≡ Some true → (takes_value verb flag ≡ Some true → ⊥) → bytes_eq name flag ≡ false
no_flag verb name flag takes none = by_test (bytes_eq name flag) refl
  where
    by_test : (t : Bool) → bytes_eq name flag ≡ t → t ≡ false
    by_test true e = absurd (none (sym (ap (takes_value verb) (same_text name flag e)) ∙ takes))
    by_test false e = refl

flag_none : (verb : Verb) → takes_value verb (codes "--record") ≡ Some true → ⊥
flag_none Replay h = absurd (cc h)
flag_none Serve h = let same : false ≡ true = cc in cc same

capture_none : (verb : Verb) → takes_value verb (codes "--capture") ≡ Some true → ⊥
capture_none Replay h = absurd (cc h)
capture_none Serve h = let same : false ≡ true = cc in cc same

still_one : (verb : Verb) (o : List Given) (name value : Word) → takes_value verb name ≡ Some true → is_both o ≡ false → is_both (o ++ given name value ∷ []) ≡ false
still_one verb o name value takes one =
    let g = given name value in
    let record_same : is_some (value_in (o ++ g ∷ []) (codes "--record")) ≡ is_some (value_in o (codes "--record")) = more_given o g (codes "--record") ∙ or_false _ _
    (no_flag verb name (codes "--record") takes (flag_none verb)) in
    let capture_same : is_some (value_in (o ++ g ∷ []) (codes "--capture")) ≡ is_some (value_in o (codes "--capture")) = more_given o g (codes "--capture") ∙ or_false _ _
    (no_flag verb name (codes "--capture") takes (capture_none verb)) in
    ap (λ (b : Bool). b && is_some (value_in (o ++ g ∷ []) (codes "--capture"))) record_same ∙ ap (λ (b : Bool). is_some (value_in o (codes "--record")) && b) capture_same ∙ one

valued : (verb : Verb) (name : Word) → takes_value verb name ≡ Some true → (kind : Kind) × (kind_of verb name ≡ Some kind)
valued verb name takes = by_kind (kind_of verb name) refl takes
  where
    by_kind : (o : Option Kind) → kind_of verb name ≡ o → option_map has_value o ≡ Some true → (kind : Kind) × (kind_of verb name ≡ Some kind)
    by_kind None e h = absurd (cc h)
    by_kind (Some kind) e h = (kind, e)

-- What words come to with what is put behind them.
record Comes (verb : Verb) (words : List Word) : Type 0 where
  more : List Word
  walks : Walks verb (words ++ more)
  quiet : walks.walk.waits ≡ None

module _ (verb : Verb) (words : List Word) where
  -- the value of an option that waits
  settle : Walks verb words → Comes verb words
  settle w = by_waits w.walk.waits refl w.proper.waiting
    where
      by_waits : (t : Option Word) → w.walk.waits ≡ t → MatchOption t (Unit {0}) (λ name. (takes_value w.walk.verb name ≡ Some true) ×
          (may_stand w.walk.options name ≡ true)) → Comes verb words
      by_waits None e h = record { more = []; walks = none_more verb words w; quiet = e }
      by_waits (Some name) e h =
          let kind = valued w.walk.verb name h.0 in
          let v = sample kind.0 in
          let o = w.walk.options in
          let a = w.walk.alone in
          let open_still : w.walk.ended ≡ false = (
          let by_ended : (b : Bool) → w.walk.ended ≡ b → b ≡ false = λ b.
          (elim b as (λ x. w.walk.ended ≡ x → x ≡ false) [
            | true ↦ λ is. absurd (let clash : ◌≡◌ {A = Option Word} (Some name) None = sym e ∙ w.proper.quiet is in cc clash)
            | false ↦ λ is. refl
          ]) in
          by_ended w.walk.ended refl) in
          let is : waiting w.walk.verb o a name ≡ w.walk = ap (λ (t : Option Word). record { verb = w.walk.verb; options = o; alone = a; waits = t; ended = false }) (sym e) ∙ ap
          (λ (b : Bool). record { verb = w.walk.verb; options = o; alone = a; waits = w.walk.waits; ended = b }) (sym open_still) in
          let stepped : step (waiting w.walk.verb o a name) v.value ≡ Some
          (at w.walk.verb (o ++ given name v.value ∷ []) a) = apart_step w.walk.verb o a name v.value v.some v.plain ∙ put_fresh w.walk.verb o a name v.value h.1 in
          let fits : Fits (waiting w.walk.verb o a name) v.value = (tt, (rw (kind.1) v.can, still_one w.walk.verb o name v.value h.0 w.good.one), refl) in
          record {
            more = v.value ∷ [];
            walks = one_more verb words w v.value (at w.walk.verb (o ++ given name v.value ∷ []) a)
                (subst (λ (x : Walk). step x v.value ≡ Some (at w.walk.verb (o ++ given name v.value ∷ []) a)) is stepped) (subst (λ (x : Walk). Fits x v.value) is fits);
            quiet = refl;
          }

begins_further : (Read : List Word → Type 0) (words more : List Word) → BeginsOne Read (words ++ more) → BeginsOne Read words
begins_further Read words more b = (more ++ b.0, subst Read (append_assoc words more b.0) b.1)

-- `replay`: a file
replay_whole : (words : List Word) (w : Walks Replay words) → w.walk.waits ≡ None → (file : Word) (rules : List Word) → w.walk.alone ≡ file ∷ rules → ReplayMeant words
replay_whole words w none file rules alone =
    let wanted : AreWanted Replay (file ∷ rules) = subst (λ (a : List Word). AreWanted Replay a) alone (subst (λ (v : Verb). AreWanted v w.walk.alone) w.verb_is w.good.wanted) in
    let are : AreGiven Replay w.walk.options = subst (λ (v : Verb). AreGiven v w.walk.options) w.verb_is w.good.given in
    let denied = denials_of Replay w.walk.options are in
    let gs = words_are_guests rules wanted.1 in
    let set = settings_of Replay (single w.walk.options) (single_given Replay w.walk.options are) gs.0 denied.0 in
    let fs = words_are_rules rules set.0.dhcp_start wanted.1 in
    let config = record set.0 { forwards = fs.0 } in (
      file,
      config,
      replay_means words file config (record {
        walk = w.walk;
        read = finishes Replay words w none;
        good = w.good;
        rules = rules;
        alone = alone;
        some = wanted.0.0;
        fits = wanted.0.1;
        forwards = fs.1;
        guests = subst (λ (g : List GuestFwd). AreGuestForwards (guest_words rules) g) (sym set.2) gs.1;
        settings = with_forwards (value_in (single w.walk.options)) set.0 fs.0 set.1;
        denied = subst (λ (ds : List Denial). AreDenials (repeated w.walk.options) ds) (sym set.3) denied.1;
      }),
    )

alone_step : (verb : Verb) (o : List Given) (a : List Word) (ended : Bool) (word : Word) → is_dashed word ≡ false → step
    (record { verb = verb; options = o; alone = a; waits = None; ended = ended }) word ≡ Some (record { verb = verb; options = o; alone = a ++ word ∷ []; waits = None; ended = ended })
alone_step verb o a true word plain = refl
alone_step verb o a false word plain = plain_step verb o a word plain

file_fits : (o : List Given) (ended : Bool) → Fits (record { verb = Replay; options = o; alone = []; waits = None; ended = ended }) (codes "F")
file_fits o true = ((omega arith, omega arith), tt, refl)
file_fits o false = ((omega arith, omega arith), tt, refl)

replay_quiet : (words : List Word) (w : Walks Replay words) → w.walk.waits ≡ None → BeginsOne ReplayMeant words
replay_quiet words w none = by_alone w.walk.alone refl
  where
    by_alone : (a : List Word) → w.walk.alone ≡ a → BeginsOne ReplayMeant words
    by_alone (file ∷ rules) e = ([], replay_whole (words ++ []) (none_more Replay words w) none file rules e)
    by_alone [] e =
        let before : Walk = record { verb = Replay; options = w.walk.options; alone = []; waits = None; ended = w.walk.ended } in
        let behind : Walk = record { verb = Replay; options = w.walk.options; alone = codes "F" ∷ []; waits = None; ended = w.walk.ended } in
        let is : before ≡ w.walk =
        ap (λ (v : Verb). record { verb = v; options = w.walk.options; alone = []; waits = None; ended = w.walk.ended }) (sym w.verb_is)
        ∙ ap (λ (a : List Word). record { verb = w.walk.verb; options = w.walk.options; alone = a; waits = None; ended = w.walk.ended }) (sym e)
        ∙ ap (λ (t : Option Word). record { verb = w.walk.verb; options = w.walk.options; alone = w.walk.alone; waits = t; ended = w.walk.ended }) (sym none) in
        let more = one_more Replay words w (codes "F") behind (subst (λ (x : Walk). step x (codes "F") ≡ Some behind) is (alone_step Replay w.walk.options [] w.walk.ended
        (codes "F") refl)) (subst (λ (x : Walk). Fits x (codes "F")) is (file_fits w.walk.options w.walk.ended)) in
        (codes "F" ∷ [], replay_whole (words ++ codes "F" ∷ []) more refl (codes "F") [] refl)

pub replay_begins : (words : List Word) → Walks Replay words → BeginsOne ReplayMeant words
replay_begins words w =
    let c = settle Replay words w in
    begins_further ReplayMeant words c.more (replay_quiet (words ++ c.more) c.walks c.quiet)

-- `serve`: the place of the link
tap_for : (r c : Bool) → r && c ≡ false → (tap : Tap) × (r ≡ is_record tap) × (c ≡ is_capture tap)
tap_for true true h = absurd (cc h)
tap_for true false h = (Record, refl, refl)
tap_for false true h = (Capture, refl, refl)
tap_for false false h = (Off, refl, refl)

serve_whole : (words : List Word) (w : Walks Serve words) → w.walk.waits ≡ None → (text : Word) → value_in w.walk.options (codes "--link") ≡ Some text → ServeMeant words
serve_whole words w none text linked =
    let wanted : AreRuleWords w.walk.alone = subst (λ (v : Verb). AreWanted v w.walk.alone) w.verb_is w.good.wanted in
    let are : AreGiven Serve w.walk.options = subst (λ (v : Verb). AreGiven v w.walk.options) w.verb_is w.good.given in
    let denied = denials_of Serve w.walk.options are in
    let gs = words_are_guests w.walk.alone wanted in
    let set = settings_of Serve (single w.walk.options) (single_given Serve w.walk.options are) gs.0 denied.0 in
    let link = value_read Serve w.walk.options are (codes "--link") text linked Link refl in
    let tap = tap_for (is_some (value_in (single w.walk.options) (codes "--record"))) (is_some (value_in (single w.walk.options) (codes "--capture"))) (both_single w.walk.options ∙ w.good.one) in
    let fs = words_are_rules w.walk.alone set.0.dhcp_start wanted in
    let config = record set.0 { forwards = fs.0 } in (
      config,
      link.0,
      tap.0,
      serve_means words config link.0 tap.0 (record {
        walk = w.walk;
        read = finishes Serve words w none;
        good = w.good;
        link = subst (λ (o : Option Word). IsLinkAt o link.0) (sym (single_value w.walk.options (codes "--link") refl ∙ linked)) link.1;
        taps = (tap.1, tap.2);
        forwards = fs.1;
        guests = subst (λ (g : List GuestFwd). AreGuestForwards (guest_words w.walk.alone) g) (sym set.2) gs.1;
        settings = with_forwards (value_in (single w.walk.options)) set.0 fs.0 set.1;
        denied = subst (λ (ds : List Denial). AreDenials (repeated w.walk.options) ds) (sym set.3) denied.1;
      }),
    )

abbrev link_word : Word
link_word = codes "--link=unix:s"

link_fits : (o : List Given) (a : List Word) → is_both o ≡ false → Fits (at Serve o a) link_word
link_fits o a one = (tt, ((AtPath (codes "s"), (refl, (omega arith, omega arith))), still_one Serve o (codes "--link") (codes "unix:s") refl one), refl)

value_last : (o : List Given) (name value : Word) → is_some (value_in (o ++ given name value ∷ []) name) ≡ true → is_some (value_in o name) ≡ false → (text : Word) ×
    (value_in (o ++ given name value ∷ []) name ≡ Some text)
value_last o name value there free = by_value (value_in (o ++ given name value ∷ []) name) refl there
  where
    by_value : (t : Option Word) → value_in (o ++ given name value ∷ []) name ≡ t → is_some t ≡ true → (text : Word) × (value_in (o ++ given name value ∷ []) name ≡ Some text)
    by_value None e h = absurd (cc h)
    by_value (Some text) e h = (text, e)

serve_quiet : (words : List Word) (w : Walks Serve words) → w.walk.waits ≡ None → BeginsOne ServeMeant words
serve_quiet words w none = by_link (value_in w.walk.options (codes "--link")) refl
  where
    by_link : (t : Option Word) → value_in w.walk.options (codes "--link") ≡ t → BeginsOne ServeMeant words
    by_link (Some text) e = ([], serve_whole (words ++ []) (none_more Serve words w) none text e)
    by_link None e =
        let o = w.walk.options in
        let a = w.walk.alone in
        let free : is_some (value_in o (codes "--link")) ≡ false = ap (λ (t : Option Word). is_some t) e in
        let not_ended : (b : Bool) → w.walk.ended ≡ b → b ≡ false = λ b.
        (elim b as (λ x. w.walk.ended ≡ x → x ≡ false) [
          | true ↦ λ is. absurd (let clash : false ≡ true = sym free ∙ sym (ap (λ (v : Verb). has_link v o) w.verb_is) ∙ w.good.linked is in cc clash)
          | false ↦ λ is. refl
        ]) in
        let is : at Serve o a ≡ w.walk =
        ap (λ (v : Verb). at v o a) (sym w.verb_is)
        ∙ ap (λ (t : Option Word). record { verb = w.walk.verb; options = o; alone = a; waits = t; ended = false }) (sym none)
        ∙ ap (λ (b : Bool). record { verb = w.walk.verb; options = o; alone = a; waits = w.walk.waits; ended = b }) (sym (not_ended w.walk.ended refl)) in
        let g = given (codes "--link") (codes "unix:s") in
        let behind = at Serve (o ++ g ∷ []) a in
        let may : may_stand o (codes "--link") ≡ true = ap not free in
        let stepped : step (at Serve o a) link_word ≡ Some behind = joined_step Serve o a (codes "--link") (codes "unix:s") refl (omega arith) ∙ put_fresh Serve o a
        (codes "--link") (codes "unix:s") may in
        let more = one_more Serve words w link_word behind (subst (λ (x : Walk). step x link_word ≡ Some behind) is stepped) (subst (λ (x : Walk). Fits x link_word) is (link_fits o a w.good.one)) in
        let there : is_some (value_in (o ++ g ∷ []) (codes "--link")) ≡ true = more_given o g (codes "--link") ∙ ap (λ (b : Bool). b || bytes_eq (codes "--link") (codes "--link")) free in
        let told = value_last o (codes "--link") (codes "unix:s") there free in
        (link_word ∷ [], serve_whole (words ++ link_word ∷ []) more refl told.0 told.1)

pub serve_begins : (words : List Word) → Walks Serve words → BeginsOne ServeMeant words
serve_begins words w =
    let c = settle Serve words w in
    begins_further ServeMeant words c.more (serve_quiet (words ++ c.more) c.walks c.quiet)
