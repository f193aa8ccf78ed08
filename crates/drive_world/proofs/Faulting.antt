-- What is told of a call that is passed on, and of one that gets the fault.
use Rattle.std.proofs.Common.{◌≡◌, ◌⊎◌, inl, inr, ℕ, ◌+◌, ◌^◌, ◌<◌, ◌≤◌, ◌==◌, ◌&&◌, nat_lt, min, max, Bool, true, false, cond, Option, Some, None, is_none, List, [], ◌∷◌, ◌++◌, length}
use Rattle.std.proofs.Common.{length-append, length-drop, get_or, take, drop, refl, sym, ◌∙◌, ap, subst, arith}
use Rattle.std.proofs.lemmas.List.{get_or_default, take-append-le, length-take-le}
use Rattle.world_face.specs.Journal.{AreOctets, Entry, Allowed, IsNumber, Leaves, MayRead, MayReadFile, MayWrite, count_of, filled}
use Rattle.world_face.specs.Faults.{failures, link_failed, wait_failed, socket_failed, file_failed}
use Rattle.world_face.specs.Limits.{last_count}
use Rattle.world_face.specs.Tells.{Answers, Counts, Telling, silent}
use Rattle.world_face.specs.declared.Io.{Io}
use Rattle.world_face.specs.declared.Io.TheVariants.{Done, End, NotYet as IoNotYet, Failed}
use Rattle.drive_world.specs.Faults.{FallsShort, Faulted, Passes, counted, due, failed_by, given_to, is_one, none_failed, one_failed, short_of, tells_over}
use Rattle.drive_world.specs.declared.fault.How.{How}
use Rattle.drive_world.specs.declared.fault.How.TheVariants.{Fail, Short, NotYet}
use Rattle.drive_world.specs.declared.fault.Kind.{Kind}
use Rattle.drive_world.specs.declared.fault.Plan.{Plan}

-- a count with some more goes on as it does without
on_top : (last below new more most some few : ℕ) → most ≡ more → few ≡ some → max below (min last (below + some)) ≤ new
    → max (min last (below + more)) (min last (min last (below + more) + few)) ≤ min last (new + most)
on_top last below new more most some few same alike so_far = omega (arith, same, alike, so_far)

-- a count grows by just what failed
grows : (last below more most some : ℕ) → most ≡ more + some → max (min last (below + more)) (min last (min last (below + more) + some)) ≤ min last (below + most)
grows last below more most some is = omega (arith, is)

-- where one of these calls failed the other did, and the failures are of one kind
pub record FailAlike (e f : Entry) : Type 0 where
  pub link : link_failed f ≡ link_failed e
  pub wait : wait_failed f ≡ wait_failed e
  pub socket : socket_failed f ≡ socket_failed e
  pub file : file_failed f ≡ file_failed e

by_test : (b c : Bool) → c ≡ b → cond c 1 0 + 0 ≡ cond b 1 0 + 0
by_test b c is = ap (λ x. cond x 1 0 + 0) is

no_more : (c : Bool) → c ≡ false → 0 ≡ 0 + (cond c 1 0 + 0)
no_more c is = ap (λ x. 0 + (cond x 1 0 + 0)) (sym is)

-- the World below was asked, and the fault raised no count
passed_as : (p q : Plan) (old new : Telling) (e f : Entry) → failed_by q.how q.given ≡ failed_by p.how p.given → Answers old new e → Allowed f → FailAlike e f
    → Answers (tells_over p old) (tells_over q new) f
passed_as p q old new e f same answers allowed alike = record {
  same = answers.same;
  allowed = allowed;
  told = silent refl refl refl refl;
  counted = record {
    link = on_top last_count _ _ _ _ _ _ (ap (λ (c : Counts). c.link) same) (by_test (link_failed e) (link_failed f) alike.link) answers.counted.link;
    wait = on_top last_count _ _ _ _ _ _ (ap (λ (c : Counts). c.wait) same) (by_test (wait_failed e) (wait_failed f) alike.wait) answers.counted.wait;
    socket = on_top last_count _ _ _ _ _ _ (ap (λ (c : Counts). c.socket) same) (by_test (socket_failed e) (socket_failed f) alike.socket) answers.counted.socket;
    file = on_top last_count _ _ _ _ _ _ (ap (λ (c : Counts). c.file) same) (by_test (file_failed e) (file_failed f) alike.file) answers.counted.file;
  };
}

-- a call is passed on as it is
pub passed : (p q : Plan) (old new : Telling) (e : Entry) → q ≡ counted p → Answers old new e → Answers (tells_over p old) (tells_over q new) e
passed p q old new e is answers =
    passed_as p q old new e e (ap (λ (r : Plan). failed_by r.how r.given) is) answers answers.allowed (record { link = refl; wait = refl; socket = refl; file = refl })

-- as many calls failed as an entry says, and no World was asked
in_place : (p q : Plan) (t : Telling) (e : Entry) (some none : Counts) → failed_by q.how q.given ≡ some → failed_by p.how p.given ≡ none
    → some.link ≡ none.link + failures link_failed (e ∷ []) → some.wait ≡ none.wait + failures wait_failed (e ∷ [])
    → some.socket ≡ none.socket + failures socket_failed (e ∷ []) → some.file ≡ none.file + failures file_failed (e ∷ [])
    → Allowed e → Answers (tells_over p t) (tells_over q t) e
in_place p q t e some none more less link wait socket file allowed = record {
  same = refl;
  allowed = allowed;
  told = silent refl refl refl refl;
  counted = record {
    link = grows last_count _ _ _ _ (ap (λ (c : Counts). c.link) more ∙ link ∙ ap (λ (c : Counts). c.link + failures link_failed (e ∷ [])) (sym less));
    wait = grows last_count _ _ _ _ (ap (λ (c : Counts). c.wait) more ∙ wait ∙ ap (λ (c : Counts). c.wait + failures wait_failed (e ∷ [])) (sym less));
    socket = grows last_count _ _ _ _ (ap (λ (c : Counts). c.socket) more ∙ socket ∙ ap (λ (c : Counts). c.socket + failures socket_failed (e ∷ [])) (sym less));
    file = grows last_count _ _ _ _ (ap (λ (c : Counts). c.file) more ∙ file ∙ ap (λ (c : Counts). c.file + failures file_failed (e ∷ [])) (sym less));
  };
}

-- what is known where the fault is due
is_due : (b : Bool) (h how : How) → ◌≡◌ {A = Option How} (cond b (Some h) None) (Some how) → (b ≡ true) × (h ≡ how)
is_due true h how is = (refl, cc)
is_due false h how is = absurd (cc is)

second : (a b : Bool) → (a && b) ≡ true → b ≡ true
second true b is = is
second false b is = absurd (cc is)

no_kind : (o : Option Kind) → is_none o ≡ true → o ≡ None
no_kind None is = refl
no_kind (Some kind) is = absurd (cc is)

how_is : (p : Plan) (how : How) → due p ≡ Some how → p.how ≡ how
how_is p how is = (is_due (p.left == 0 && is_none p.given) p.how how is).1

none_given : (p : Plan) (how : How) → due p ≡ Some how → p.given ≡ None
none_given p how is = no_kind p.given (second (p.left == 0) (is_none p.given) (is_due (p.left == 0 && is_none p.given) p.how how is).0)

before : (p : Plan) (how : How) → due p ≡ Some how → failed_by p.how p.given ≡ failed_by how None
before p how is = ap (λ h. failed_by h p.given) (how_is p how is) ∙ ap (failed_by how) (none_given p how is)

-- the call fails: the count of its kind alone rises
pub failed : (p q : Plan) (kind : Kind) (t : Telling) (e : Entry) → due p ≡ Some Fail → q ≡ given_to kind p
    → failures link_failed (e ∷ []) ≡ (one_failed kind).link → failures wait_failed (e ∷ []) ≡ (one_failed kind).wait
    → failures socket_failed (e ∷ []) ≡ (one_failed kind).socket → failures file_failed (e ∷ []) ≡ (one_failed kind).file
    → Allowed e → Answers (tells_over p t) (tells_over q t) e
failed p q kind t e is given link wait socket file allowed =
    in_place p q t e (one_failed kind) none_failed (ap (λ (r : Plan). failed_by r.how r.given) given ∙ ap (λ h. failed_by h (Some kind)) (how_is p Fail is)) (before p Fail is)
    (omega (arith, link)) (omega (arith, wait)) (omega (arith, socket)) (omega (arith, file)) allowed

-- it isn't answered yet: none rises
pub put_off : (p q : Plan) (kind : Kind) (t : Telling) (e : Entry) → due p ≡ Some NotYet → q ≡ given_to kind p
    → link_failed e ≡ false → wait_failed e ≡ false → socket_failed e ≡ false → file_failed e ≡ false
    → Allowed e → Answers (tells_over p t) (tells_over q t) e
put_off p q kind t e is given link wait socket file allowed =
    in_place p q t e none_failed none_failed (ap (λ (r : Plan). failed_by r.how r.given) given ∙ ap (λ h. failed_by h (Some kind)) (how_is p NotYet is)) (before p NotYet is)
    (no_more (link_failed e) link) (no_more (wait_failed e) wait) (no_more (socket_failed e) socket) (no_more (file_failed e) file) allowed

-- it moves one octet in place of several
short_none : (p : Plan) (b : Bool) (kind : Kind) → p.how ≡ Short → let q = cond b (record p { given = Some kind }) p in failed_by q.how q.given ≡ none_failed
short_none p true kind is = ap (λ h. failed_by h (Some kind)) is
short_none p false kind is = ap (λ h. failed_by h p.given) is

pub cut_short : (p q : Plan) (kind : Kind) (whole : ℕ) (answer : Io) (old new : Telling) (e f : Entry) → due p ≡ Some Short → q ≡ short_of kind whole answer (counted p)
    → Answers old new e → Allowed f → FailAlike e f → Answers (tells_over p old) (tells_over q new) f
cut_short p q kind whole answer old new e f is given answers allowed alike =
    passed_as p q old new e f
    (ap (λ (r : Plan). failed_by r.how r.given) given ∙ short_none (counted p) (nat_lt 1 whole && is_one answer) kind (how_is p Short is) ∙ sym (before p Short is)) answers allowed alike

-- what may come of a read of one octet may come of one of more, and the octet is the first
may_more : (asked whole : ℕ) (answer : Io) → asked ≤ whole → MayRead asked answer → MayRead whole answer
may_more asked whole (Done n) some may = (may.0, omega (arith, may.1, some))
may_more asked whole End some may = tt
may_more asked whole IoNotYet some may = tt
may_more asked whole Failed some may = tt

-- the same of a file
file_more : (asked whole : ℕ) (answer : Io) → asked ≤ whole → MayReadFile asked answer → MayReadFile whole answer
file_more asked whole (Done n) some may = (may.0, omega (arith, may.1, some))
file_more asked whole End some may = tt
file_more asked whole IoNotYet some may = may
file_more asked whole Failed some may = tt

pub as_read : (asked : ℕ) (answer : Io) → MayReadFile asked answer → MayRead asked answer
as_read asked (Done n) may = may
as_read asked End may = tt
as_read asked IoNotYet may = tt
as_read asked Failed may = tt

at_most : (asked : ℕ) (answer : Io) → MayRead asked answer → count_of answer ≤ asked
at_most asked (Done n) may = may.1
at_most asked End may = omega arith
at_most asked IoNotYet may = omega arith
at_most asked Failed may = omega arith

same_filled : (asked : ℕ) (answer : Io) (part rest : List ℕ) → length part ≡ asked → MayRead asked answer → filled answer (part ++ rest) ≡ filled answer part
same_filled asked answer part rest is may = take-append-le (count_of answer) part rest (omega (arith, at_most asked answer may, is))

one_asked : (into : List ℕ) → 0 < length into → length (take 1 into) ≡ 1
one_asked into some = length-take-le 1 into some

module _ (into part : List ℕ) (answer : Io) (some : 0 < length into) (same : length part ≡ length (take 1 into)) where
  pub may_leave : length into < 2 ^ 64 → MayRead (length (take 1 into)) answer → Leaves answer (filled answer part)
      → MayRead (length into) answer × Leaves answer (filled answer (part ++ drop 1 into)) × IsNumber (length into)
  may_leave fits may leaves = (
    may_more (length (take 1 into)) (length into) answer (omega (arith, one_asked into some, some)) may,
    subst (Leaves answer)
        (sym (same_filled (length (take 1 into)) answer part (drop 1 into) same may)) leaves,
    fits,
  )

  pub file_may_leave : length into < 2 ^ 64 → MayReadFile (length (take 1 into)) answer → Leaves answer (filled answer part)
      → MayReadFile (length into) answer × Leaves answer (filled answer (part ++ drop 1 into)) × IsNumber (length into)
  file_may_leave fits may leaves =
      (file_more (length (take 1 into)) (length into) answer (omega (arith, one_asked into some, some)) may, (may_leave fits (as_read (length (take 1 into)) answer may) leaves).1, fits)

  first_filled : MayRead (length (take 1 into)) answer → filled answer part ≡ filled answer (part ++ drop 1 into)
  first_filled may = sym (same_filled (length (take 1 into)) answer part (drop 1 into) same may)

  pub whole_stays : length (part ++ drop 1 into) ≡ length into
  whole_stays = grind (arith, length-append, length-drop, same, one_asked into some, some)

  -- what is read of one octet alone is what its front is filled with
  pub first_read : (entry : ℕ → List ℕ → Entry) (old new : Telling) → MayRead (length (take 1 into)) answer
      → Answers old new (entry (length (take 1 into)) (filled answer part)) → Answers old new (entry 1 (filled answer (part ++ drop 1 into)))
  first_read entry old new may answers =
      subst (λ asked. Answers old new (entry asked (filled answer (part ++ drop 1 into)))) (one_asked into some)
      (subst (λ octets. Answers old new (entry (length (take 1 into)) octets)) (first_filled may) answers)

pub all_small : (from : List ℕ) → ((i : ℕ) → get_or from i 0 < 256) → AreOctets from
all_small from small = λ k d lt. subst (λ n. n < 256) (get_or_default from k 0 d lt) (small k)

-- what may come of a write of one octet may come of one of more
pub write_more : (from : List ℕ) (answer : Io) → 0 < length from → MayWrite (length (take 1 from)) answer → MayWrite (length from) answer
write_more from (Done n) some may = (may.0, omega (arith, may.1, one_asked from some, some))
write_more from End some may = may
write_more from IoNotYet some may = tt
write_more from Failed some may = tt

-- What is known where a call was counted, and the fault given to it after.
pub due_as : (p : Plan) (how that : How) → Some how ≡ due p → how ≡ that → due p ≡ Some that
due_as p how that answered is = sym answered ∙ ap (λ h. Some h) is

pub given_then : (p q r : Plan) (kind : Kind) → r ≡ record q { given = Some kind } → q ≡ counted p → r ≡ given_to kind p
given_then p q r kind given one = given ∙ ap {B = Plan} (λ (s : Plan). record s { given = Some kind }) one

-- counted in both of two cases
pub counted_by : {A B C D : Type 0} (p q : Plan) → A ⊎ B → (A → C × (q ≡ counted p)) → (B → D × (q ≡ counted p)) → q ≡ counted p
counted_by p q (inl a) first second = (first a).1
counted_by p q (inr b) first second = (second b).1

-- A World and a plan that are fields: what they were is what the whole was.
module _ {W : Type 0} (tells : W → Telling) (was : W) (p : Plan) (now : Faulted W) (is : ◌≡◌ {A = Faulted W} (record { inner = was; plan = p }) now) where
  pub passes_on : (new : W) (q : Plan) (e : Entry) → Answers (tells was) (tells new) e → q ≡ counted p → Passes tells now (record { inner = new; plan = q }) e
  passes_on new q e answers next = subst (λ (w : Faulted W). Passes tells w (record { inner = new; plan = q }) e) is (record { answers = answers; plan = next })

  -- what is told over a field is told over the whole
  over : (new : W) (q : Plan) (e : Entry) → Answers (tells_over p (tells was)) (tells_over q (tells new)) e
      → Answers (tells_over now.plan (tells now.inner)) (tells_over q (tells new)) e
  over new q e answers = subst (λ (w : Faulted W). Answers (tells_over w.plan (tells w.inner)) (tells_over q (tells new)) e) is answers

  pub passed_on : (new : W) (q : Plan) (e : Entry) → Answers (tells was) (tells new) e → q ≡ counted p
      → Answers (tells_over now.plan (tells now.inner)) (tells_over q (tells new)) e
  passed_on new q e answers next = over new q e (passed p q (tells was) (tells new) e next answers)

  pub fails_here : (q : Plan) (kind : Kind) (e : Entry) → (due p ≡ Some Fail) × (q ≡ given_to kind p)
      → failures link_failed (e ∷ []) ≡ (one_failed kind).link → failures wait_failed (e ∷ []) ≡ (one_failed kind).wait
      → failures socket_failed (e ∷ []) ≡ (one_failed kind).socket → failures file_failed (e ∷ []) ≡ (one_failed kind).file
      → Allowed e → Answers (tells_over now.plan (tells now.inner)) (tells_over q (tells was)) e
  fails_here q kind e both link wait socket file allowed = over was q e (failed p q kind (tells was) e both.0 both.1 link wait socket file allowed)

  pub put_off_here : (q : Plan) (kind : Kind) (e : Entry) → (due p ≡ Some NotYet) × (q ≡ given_to kind p)
      → link_failed e ≡ false → wait_failed e ≡ false → socket_failed e ≡ false → file_failed e ≡ false
      → Allowed e → Answers (tells_over now.plan (tells now.inner)) (tells_over q (tells was)) e
  put_off_here q kind e both link wait socket file allowed = over was q e (put_off p q kind (tells was) e both.0 both.1 link wait socket file allowed)

  with_plan : (q r : Plan) → q ≡ r → ◌≡◌ {A = Faulted W} (record { inner = was; plan = q }) (record { inner = was; plan = r })
  with_plan q r same = ap {B = Faulted W} (λ (s : Plan). record { inner = was; plan = s }) same

  -- the fault was given, and the World below stays
  pub given_here : (q : Plan) (kind : Kind) → q ≡ given_to kind p
      → ◌≡◌ {A = Faulted W} (record { inner = was; plan = q }) (record now { plan = given_to kind now.plan })
  given_here q kind given =
      subst (λ (w : Faulted W). ◌≡◌ {A = Faulted W} (record { inner = was; plan = q }) (record w { plan = given_to kind w.plan })) is
      (with_plan q (given_to kind p) given)

  pub short_answers : (new : W) (next q : Plan) (kind : Kind) (whole : ℕ) (answer : Io) (e f : Entry)
      → (due p ≡ Some Short) × (next ≡ counted p) → q ≡ short_of kind whole answer next
      → Answers (tells was) (tells new) e → Allowed f → FailAlike e f
      → Answers (tells_over now.plan (tells now.inner)) (tells_over q (tells new)) f
  short_answers new next q kind whole answer e f short given answers allowed alike =
      subst (λ (w : Faulted W). Answers (tells_over w.plan (tells w.inner)) (tells_over q (tells new)) f) is
      (cut_short p q kind whole answer (tells was) (tells new) e f short.0 (given ∙ ap (short_of kind whole answer) short.1) answers allowed alike)

  pub falls_short : (new : W) (next q : Plan) (kind : Kind) (whole : ℕ) (answer : Io) (e : Entry) → next ≡ counted p → q ≡ short_of kind whole answer next
      → Answers (tells was) (tells new) e → FallsShort tells kind whole answer now (record { inner = new; plan = q }) e
  falls_short new next q kind whole answer e one given answers =
      subst (λ (w : Faulted W). FallsShort tells kind whole answer w (record { inner = new; plan = q }) e) is
      (record { answers = answers; plan = given ∙ ap (short_of kind whole answer) one })
