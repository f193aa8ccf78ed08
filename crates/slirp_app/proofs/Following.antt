-- From the trace of a run to the status.
use Rattle.std.proofs.Common.{◌≡◌, ◌≢◌, ◌⊎◌, inl, inr, ℕ, ◌<◌, ◌≤◌, ◌==◌, ◌||◌, not, Bool, true, false, IsTrue, List, [], ◌∷◌, ◌++◌, map, reverse, Option, Some, None, refl, sym, ◌∙◌, ap, subst, arith}
use Rattle.std.proofs.lemmas.Bool.Decides.{nat_tests}
use Rattle.net_octets.specs.declared.Endpoint.{Endpoint}
use Rattle.slirp_settings.specs.Addresses.{Config}
use Rattle.spec_trace.specs.Moments.{waits, waits_after}
use Rattle.spec_trace.specs.Shape.{By, Opening, Started, Woken, Working, Over, Phase, clocked, is_opening, opened, phase, phase_after, phase_by, unless_over}
use Rattle.spec_trace.specs.Sockets.{open_sockets}
use Rattle.rules_control.specs.Talk.{listener}
use Rattle.spec_control.specs.Laws.{Refuses}
use Rattle.control_loop.specs.Runs.{BeginsRun, IsRun, seen_by_network}
use Rattle.serve_loop.specs.Ends.{end_of}
use Rattle.serve_loop.specs.declared.service.End.{End}
use Rattle.serve_loop.specs.declared.service.End.TheVariants.{Done as AtEnd}
use Rattle.spec_run.specs.Laws.{Finished, Lawful}
use Rattle.slirp_app.specs.Causes.{RanOn}
use Rattle.slirp_app.specs.Doing.{ReplaysFile}
use Rattle.app_edges.specs.Fetching.{IsWhole, octets_read}
use Rattle.slirp_app.specs.Serving.{ComesTo}
use Rattle.app_edges.specs.Statuses.{code_of, is_run}
use Rattle.slirp_app.specs.Statuses.{outcome_of}
use Rattle.slirp_app.specs.Untroubled.{CanBeFollowed, IsBegun, Untroubled}
use Rattle.app_edges.specs.declared.outcome.Outcome.{Outcome}
use Rattle.app_edges.specs.declared.outcome.Outcome.TheVariants.{Done}
use Rattle.slirp_app.proofs.Alone.{begun_lawfully}
use Rattle.slirp_app.proofs.Apart.{before_first, ended_apart, fewer_before, fewer_on_link, fewer_waits_fail, octets_apart, waits_apart}
use Rattle.slirp_app.proofs.Completed.{ends_well, none_failed}
use Rattle.slirp_app.proofs.Rightly.{AreRightReads, right_apart, right_reads}
use Rattle.slirp_app.proofs.Seen.{BySight, RanTo, Sight, Unserved, ran_to}
use Rattle.world_face.specs.Faults.{failures, socket_failed}
use Rattle.world_face.specs.Frames.{Ending, LinkEnded, Stopped, ending, partial}
use Rattle.world_face.specs.Journal.{AreAllowed, Close, Entry, Listen, Now, UdpOpen, Wait}
use Rattle.world_face.specs.Tells.{Telling, Told}
use Rattle.world_face.specs.declared.Made.{Made}
use Rattle.world_face.specs.declared.Made.TheVariants.{Done as MadeDone, Failed as MadeFailed}
use Rattle.world_face.proofs.Telling.{makes_as}

at_end : (config : Config) (p : Phase) → (p ≡ Over (By LinkEnded)) ⊎ (p ≡ Over (By Stopped)) → end_of config p ≡ AtEnd
at_end config p (inl ended) = ap (end_of config) ended
at_end config p (inr stopped) = ap (end_of config) stopped

pub is_at_end : (config : Config) (journal : List Entry) → AreAllowed journal → Lawful config journal → Finished config journal → Untroubled config journal → end_of config
    (phase config journal) ≡ AtEnd
is_at_end config journal allowed lawful finished untroubled =
    at_end config (phase config journal) (ends_well config journal (right_reads journal allowed) lawful untroubled finished)

-- ---- so with a control

abbrev EndsWell : Phase → Type 0
EndsWell p = (p ≡ Over (By LinkEnded)) ⊎ (p ≡ Over (By Stopped))

by_sight : (config : Config) (end : End) (seen : List Entry) → AreRightReads seen → (sight : Sight config end seen) → Untroubled sight.its seen → end ≡ AtEnd
by_sight config end seen right sight untroubled =
    sight.ends ∙ at_end config (phase config seen) (subst EndsWell sight.same (ends_well sight.its seen right sight.lawful untroubled sight.finished))

right_seen : (control : Option Endpoint) (run : List Entry) → AreRightReads run → AreRightReads (seen_by_network control run)
right_seen None run right = right
right_seen (Some at) run right = right_apart run right

untroubled_seen : (control : Option Endpoint) (config its : Config) (run : List Entry) → its.turns ≡ config.turns → Untroubled config run → Untroubled its (seen_by_network control run)
untroubled_seen None config its run turns u = record {
  frames = u.frames;
  may_come = u.may_come;
  left = u.left;
  came = u.came;
  whole = u.whole;
  link = u.link;
  wait = u.wait;
  ports = u.ports;
  fewer = subst (λ n. waits run < n) (sym turns) u.fewer;
}
untroubled_seen (Some at) config its run turns u = record {
  frames = u.frames;
  may_come = u.may_come;
  left = u.left;
  came = ap (λ l. l ++ u.left) (octets_apart run) ∙ u.came;
  whole = λ ended. u.whole (sym (ended_apart run) ∙ ended);
  link = omega (arith, fewer_on_link run, u.link);
  wait = omega (arith, fewer_waits_fail run, u.wait);
  ports = omega (arith, fewer_before run, u.ports);
  fewer = omega (arith, waits_apart run, turns, u.fewer);
}

-- a run that still opens its ports never waited
opened_yet : (answer : Made) (p : Phase) → is_opening (opened answer p) ≡ true → is_opening p ≡ true
opened_yet answer (Opening count forwards) is = refl
opened_yet MadeDone Started is = is
opened_yet MadeDone Woken is = is
opened_yet MadeDone Working is = is
opened_yet MadeDone (Over cause) is = is
opened_yet MadeFailed Started is = is
opened_yet MadeFailed Woken is = is
opened_yet MadeFailed Working is = is
opened_yet MadeFailed (Over cause) is = is

clocked_yet : (p : Phase) → is_opening (clocked p) ≡ true → is_opening p ≡ true
clocked_yet (Opening count forwards) is = refl
clocked_yet Started is = is
clocked_yet Woken is = cc
clocked_yet Working is = is
clocked_yet (Over cause) is = is

over_yet : (p : Phase) (why : Ending) → is_opening (unless_over p why) ≡ true → ⊥
over_yet (Opening count forwards) why is = cc
over_yet Started why is = cc
over_yet Woken why is = cc
over_yet Working why is = cc
over_yet (Over cause) why is = cc

opening_by : (e : Entry) (p : Phase) (n : ℕ) → is_opening (phase_by e p) ≡ true → (is_opening p ≡ true) × (waits_after e n ≡ n)
opening_by (Now told) p n is = (clocked_yet p is, refl)
opening_by (Wait wants timeout answer ready) p n is = absurd (cc is)
opening_by (Listen socket at answer) p n is = (opened_yet answer p is, refl)
opening_by (UdpOpen socket at answer) p n is = (opened_yet answer p is, refl)
opening_by _ p n is = (is, refl)

opening_after : (e : Entry) (o : Option Ending) (p : Phase) (n : ℕ) → is_opening (phase_after e o p) ≡ true → (is_opening p ≡ true) × (waits_after e n ≡ n)
opening_after e None p n is = opening_by e p n is
opening_after e (Some why) p n is = absurd (over_yet p why is)

opening_unwaited : (config : Config) (past : List Entry) → is_opening (phase config past) ≡ true → waits past ≡ 0
opening_unwaited config [] is = refl
opening_unwaited config (e ∷ past) is =
    let before = opening_after e (ending e (partial past)) (phase config past) (waits past) is in
    before.1 ∙ opening_unwaited config past before.0

waits_closed : (sockets : List ℕ) (past : List Entry) → waits (map Close sockets ++ past) ≡ waits past
waits_closed [] past = refl
waits_closed (socket ∷ sockets) past = waits_closed sockets past

-- a control that was refused is trouble
refusal_troubles : (config : Config) (run : List Entry) → Refuses config run → Untroubled config run → ⊥
refusal_troubles config run refuses u =
    let closes = map Close (reverse (open_sockets refuses.before)) in
    let refusal : Entry = Listen listener refuses.at MadeFailed in
    let unwaited : waits run ≡ 0 = ap waits refuses.is ∙ waits_closed (reverse (open_sockets refuses.before)) (refusal ∷ refuses.before) ∙
    opening_unwaited config refuses.before (ap is_opening refuses.opening) in
    none_failed socket_failed run closes refuses.before refusal (ap (failures socket_failed) (sym (before_first run unwaited)) ∙ u.ports) refuses.is refl

run_done : (config : Config) (end : End) (run : List Entry) → IsRun config end run → AreAllowed run → Untroubled config run → end ≡ AtEnd
run_done config end run ran allowed u = by (ran_to config end run ran)
  where
    by : RanTo config.control config end run → end ≡ AtEnd
    by (BySight sight) =
        by_sight config end (seen_by_network config.control run) (right_seen config.control run (right_reads run allowed)) sight
        (untroubled_seen config.control config sight.its run sight.turns u)
    by (Unserved refuses is) = absurd (refusal_troubles config run refuses u)

pub is_served : (config : Config) (outcome : Outcome) (run : List Entry) → ComesTo config outcome run → AreAllowed run → Untroubled config run → outcome ≡ Done
is_served config outcome run ran allowed untroubled = ran.is ∙ ap outcome_of (run_done config ran.end run ran.ran allowed untroubled)

begun : (config : Config) (front : List Entry) (control : Option Endpoint) → config.control ≡ control → BeginsRun config front → IsBegun control config front
begun config front None is begins = begun_lawfully config front is begins
begun config front (Some at) is begins = begins

module _ (file : List ℕ) (config : Config) (status : ℕ) (world world_new : Telling) (old new : Option (List ℕ)) (Said : Outcome → Type 0)
    (replays : ReplaysFile file config status world world_new old new Said) where
  abbrev Ended : List Entry → Type 0
  Ended journal = status ≢ 5 → (end : End) × IsRun config end journal × (status ≡ code_of (outcome_of end))

  ended_well : (journal : List Entry) → AreAllowed journal → status ≢ 5 → Ended journal → Untroubled config journal → status ≡ 0
  ended_well journal allowed other ended untroubled =
      let at = ended other in
      at.2 ∙ ap (λ e. code_of (outcome_of e)) (run_done config at.0 journal at.1 allowed untroubled)

  pub comes_to_done : IsTrue (is_run status) → status ≢ 5 → RanOn config world world_new status old new (λ schedule journal. Untroubled config journal → status ≡ 0)
  comes_to_done made other = makes_as world world_new _ _ (replays.ran made) (λ calls ran. (
    ran.0,
    record {
      journal = ran.1.journal;
      put = ran.1.put;
      fits = ran.1.fits;
      allowed = ran.1.allowed;
      begins = ran.1.begins;
      holds = ended_well ran.1.journal ran.1.allowed other ran.1.holds;
    },
  ))

  -- which runs were made
  unlike : (n k : ℕ) → n ≢ k → (n == k) ≡ false
  unlike n k is = grind (arith, nat_tests)

  none_of : (a b c d e f : Bool) → a ≡ false → b ≡ false → c ≡ false → d ≡ false → e ≡ false → f ≡ false → not ((a || b || c || d || e) || f) ≡ true
  none_of false false false false false false is_a is_b is_c is_d is_e is_f = refl
  none_of true b c d e f is_a is_b is_c is_d is_e is_f = cc
  none_of false true c d e f is_a is_b is_c is_d is_e is_f = cc
  none_of false false true d e f is_a is_b is_c is_d is_e is_f = cc
  none_of false false false true e f is_a is_b is_c is_d is_e is_f = cc
  none_of false false false false true f is_a is_b is_c is_d is_e is_f = cc
  none_of false false false false false true is_a is_b is_c is_d is_e is_f = cc

  made_where : 5 < status → status ≢ 12 → status ≢ 13 → is_run status ≡ true
  made_where over unput unfit =
      none_of (status == 1) (status == 2) (status == 3) (status == 4) (status == 13) (status == 12)
      (unlike status 1 (λ is. omega arith)) (unlike status 2 (λ is. omega arith)) (unlike status 3 (λ is. omega arith)) (unlike status 4 (λ is. omega arith))
      (unlike status 13 unfit) (unlike status 12 unput)

  followed : ((made : List Entry) → Told world world_new made → IsWhole made → CanBeFollowed config (octets_read made)) → IsTrue (is_run status) → status ≢ 5 → status ≡ 0
  followed can made other =
      let ran = comes_to_done made other in
      let it = ran.holds.1 in
      it.holds (can ran.made ran.told ran.holds.0 it.journal it.fits it.allowed (begun config it.journal config.control refl it.begins))

  pub follows_file : ¬ ((1 ≤ status) × (status ≤ 5)) → ((made : List Entry) → Told world world_new made → IsWhole made → CanBeFollowed config (octets_read made)) → (status ≡ 0) ⊎
      (status ≡ 12) ⊎ (status ≡ 13)
  follows_file read can = by (status == 0) refl (status == 12) refl (status == 13) refl
    where
      by : (a : Bool) → (status == 0) ≡ a → (b : Bool) → (status == 12) ≡ b → (c : Bool) → (status == 13) ≡ c → (status ≡ 0) ⊎ (status ≡ 12) ⊎ (status ≡ 13)
      by true is b _ c _ = inl (grind (arith, nat_tests))
      by false _ true is c _ = inr (inl (grind (arith, nat_tests)))
      by false _ false _ true is = inr (inr (grind (arith, nat_tests)))
      by false zero false put false memory =
          let some : status ≢ 0 = grind (arith, nat_tests) in
          let many : 5 < status = over some read in
          inl (followed can (made_where many (grind (arith, nat_tests)) (grind (arith, nat_tests))) (λ is. omega arith))
        where
          over : status ≢ 0 → ¬ ((1 ≤ status) × (status ≤ 5)) → 5 < status
          over some none = grind arith
