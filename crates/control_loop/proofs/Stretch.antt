-- A stretch of the network's calls, on the World below: each is one that may come where there is a control, and the control server stays as it is.
use Rattle.std.proofs.Common.{◌≡◌, ℕ, ◌+◌, ◌≤◌, ◌==◌, ◌&&◌, ◌||◌, Bool, true, false, cond, is_some, List, [], ◌∷◌, ◌++◌, Option, Some, None, refl, sym, ◌∙◌, ap, subst, arith}
use Rattle.std.proofs.lemmas.Bool.{true≢false}
use Rattle.std.specs.List.{cons_option}
use Rattle.net_octets.specs.declared.Endpoint.{Endpoint}
use Rattle.poll_list.specs.Listing.{reads, same_who, writes}
use Rattle.poll_list.specs.Picks.{as_list}
use Rattle.poll_list.specs.declared.Want.{Want}
use Rattle.poll_list.specs.declared.Who.{Who}
use Rattle.poll_list.specs.declared.Who.TheVariants.{Listener as AListener, Tcp}
use Rattle.world_face.specs.Journal.{Call, Entry, Follows, call_of, Accept, Close, Connect, Connected, Listen, Now, TcpEnd, TcpRead, TcpWrite, UdpOpen, UdpRecv, UdpSend, Wait}
use Rattle.spec_duties.proofs.Checks.{same_is}
use Rattle.slirp_settings.specs.Addresses.{Config}
use Rattle.spec_trace.specs.Moments.{waits}
use Rattle.spec_trace.specs.Shape.{is_ended, is_opening, phase}
use Rattle.spec_trace.specs.Sockets.{is_forward, is_listener, kind_of}
use Rattle.rules_control.specs.Apart.{is_controls, is_of_control, is_on_control, reported_of, seen as seen_of, without_control}
use Rattle.spec_control.specs.ControlServer.{AreOffControl, ControlServer, Nothing, Reads, control_server, with_changes}
use Rattle.spec_control.specs.Laws.{Either, MayByItself, MayControl, MayGiveUp, MayOpen, MayWhere, reported, wants_of, without_read, without_write}
use Rattle.spec_control.proofs.Staying.{control_server_stays}
use Rattle.control.proofs.Apartness.{AreFew, AreForItem, AreOff, IsFew, IsForItem, IsOff, all_for_item, apart_as_seen, seen_off}
use Rattle.control.specs.Stretches.{AreSeen, IsItem, IsSeen, last_reported}

-- ---- what the network's own calls have to keep

abbrev pub MayOpenNow : Config → List Entry → Endpoint → Type 0
MayOpenNow config seen at = (at.port == 0) ≡ false → is_opening (phase config seen) ≡ true

abbrev pub KeepsTo : (listening control : Bool) → Config → List Entry → Entry → Type 0
KeepsTo listening control config seen (Now told) = listening ≡ control
KeepsTo listening control config seen (Listen socket at answer) = MayOpenNow config seen at
KeepsTo listening control config seen (UdpOpen socket at answer) = MayOpenNow config seen at
KeepsTo listening control config seen (Close socket) = (is_listener (kind_of socket seen) || is_forward (kind_of socket seen)) ≡ true → is_ended config seen ≡ true
KeepsTo listening control config seen _ = Unit {0}

abbrev pub AllKeepTo : (listening control : Bool) → Config → (more seen : List Entry) → Type 0
AllKeepTo listening control config [] seen = Unit {0}
AllKeepTo listening control config (e ∷ more) seen = KeepsTo listening control config (more ++ seen) e × AllKeepTo listening control config more seen

-- ---- what was reported of the item

pub all_off : (item : Option Want) (made seen : List Entry) → IsItem item → AreSeen item made seen → AreOff seen → AreOffControl made
all_off item [] [] own are off = tt
all_off item [] (s ∷ seen) own are off = absurd are
all_off item (e ∷ made) [] own are off = absurd are
all_off item (e ∷ made) (s ∷ seen) own are off = ((seen_off item e s own are.0 off.0).0, all_off item made seen own are.1 off.1)

-- these are the control's
abbrev AreControls : List Want → Type 0
AreControls [] = Unit {0}
AreControls (item ∷ items) = (is_of_control item.of ≡ true) × AreControls items

not_the_same : (who other : Who) → is_of_control who ≡ false → is_of_control other ≡ true → same_who who other ≡ false
not_the_same who other off own = by (same_who who other) refl
  where
    by : (b : Bool) → same_who who other ≡ b → b ≡ false
    by true is = absurd (true≢false (sym own ∙ ap is_of_control (sym (same_is who other is)) ∙ off))
    by false is = refl

reads_off : (who : Who) (item : Want) → is_of_control who ≡ false → is_of_control item.of ≡ true → reads who (item ∷ []) ≡ false
reads_off who item off own = ap (λ s. (s && item.read) || false) (not_the_same who item.of off own)

writes_off : (who : Who) (item : Want) → is_of_control who ≡ false → is_of_control item.of ≡ true → writes who (item ∷ []) ≡ false
writes_off who item off own = ap (λ s. (s && item.write) || false) (not_the_same who item.of off own)

reads_left : (who : Who) (items : List Want) → is_of_control who ≡ false → AreControls items → without_read who items ≡ items
reads_left who [] off all = refl
reads_left who (item ∷ items) off all =
    ap (λ b. cond b (without_read who items) (item ∷ without_read who items)) (reads_off who item off all.0) ∙ ap (λ l. item ∷ l) (reads_left who items off all.1)

writes_left : (who : Who) (items : List Want) → is_of_control who ≡ false → AreControls items → without_write who items ≡ items
writes_left who [] off all = refl
writes_left who (item ∷ items) off all =
    ap (λ b. cond b (without_write who items) (item ∷ without_write who items)) (writes_off who item off all.0) ∙ ap (λ l. item ∷ l) (writes_left who items off all.1)

part_own : (item : Want) (read write : Bool) → is_of_control item.of ≡ true
    → AreControls (cons_option (cond (read || write) (Some (record { of = item.of; read = read; write = write })) None) [])
part_own item read write own = by (read || write)
  where
    by : (b : Bool) → AreControls (cons_option (cond b (Some (record { of = item.of; read = read; write = write })) None) [])
    by true = (own, tt)
    by false = tt

pub reported_own : (item : Option Want) (ready : List Want) → IsItem item → AreControls (reported_of (as_list item) ready)
reported_own None ready own = tt
reported_own (Some item) ready own = part_own item (item.read && reads item.of ready) (item.write && writes item.of ready) own.1

last_own : (item : Option Want) (made : List Entry) → IsItem item → AreControls (last_reported item made)
last_own item [] own = tt
last_own item (Wait wants timeout answer ready ∷ made) own = reported_own item ready own
last_own item (_ ∷ made) own = last_own item made own

reports_by : (item : Option Want) (e : Entry) (made past : List Entry) → IsItem item → is_on_control e ≡ false → IsForItem item e → reported (made ++ past) ≡ last_reported item made
    → reported (e ∷ made ++ past) ≡ last_reported item (e ∷ made)
reports_by item (Wait wants timeout answer ready) made past own off for_item same = ap (λ l. reported_of l ready) for_item
reports_by item (Accept from socket answer) made past own off for_item same =
    ap (without_read (AListener from)) same ∙ reads_left (AListener from) (last_reported item made) off (last_own item made own)
reports_by item (TcpRead socket asked answer octets) made past own off for_item same =
    ap (without_read (Tcp socket)) same ∙ reads_left (Tcp socket) (last_reported item made) off (last_own item made own)
reports_by item (TcpWrite socket octets answer) made past own off for_item same =
    ap (without_write (Tcp socket)) same ∙ writes_left (Tcp socket) (last_reported item made) off (last_own item made own)
reports_by item _ made past own off for_item same = same

reports : (item : Option Want) (made past : List Entry) → IsItem item → AreOffControl made → AreForItem item made → reported past ≡ [] → reported (made ++ past) ≡ last_reported item made
reports item [] past own off for_item none = none
reports item (e ∷ made) past own off for_item none = reports_by item e made past own off.0 for_item.0 (reports item made past own off.1 for_item.1 none)

-- ---- at most one wait

wait_more : (e : Entry) (past : List Entry) → waits past ≤ waits (e ∷ past)
wait_more (Wait wants timeout answer ready) past = omega arith
wait_more _ past = omega arith

waits_rise : (more past : List Entry) → waits past ≤ waits (more ++ past)
waits_rise [] past = omega arith
waits_rise (e ∷ more) past = omega (arith, waits_rise more past, wait_more e (more ++ past))

pub none_yet : (item : Option Want) (made seen past : List Entry) → AreSeen item made seen → waits (seen ++ past) ≤ waits past → last_reported item made ≡ []
none_yet item [] seen past are few = refl
none_yet item (e ∷ made) [] past are few = absurd are
none_yet item (e ∷ made) (Wait wants timeout answer ready ∷ seen) past are few = absurd (omega (arith, few, waits_rise seen past))
none_yet item (e ∷ made) (s ∷ seen) past are few = ap (λ x. last_reported item (x ∷ made)) are.0 ∙ none_yet item made seen past are.1 few

-- ---- one call

-- the control server is this one, and the network saw this
record IsAt (read : Reads) (config : Config) (d : ControlServer) (seen past : List Entry) : Type 0 where
  so : control_server read config past ≡ d
  saw : without_control past ≡ seen

module _ (read : Reads) (config : Config) (d : ControlServer) where
  may_open : (seen past : List Entry) (at : Endpoint) → IsAt read config d seen past → MayOpenNow (with_changes config d) seen at → MayOpen read config past at
  may_open seen past at here may named =
      ap (λ x. is_opening (phase (with_changes config x) (without_control past))) here.so ∙ ap (λ l. is_opening (phase (with_changes config d) l)) here.saw ∙ may named

  may_give_up : (seen past : List Entry) (socket : ℕ) → IsAt read config d seen past
      → ((is_listener (kind_of socket seen) || is_forward (kind_of socket seen)) ≡ true → is_ended (with_changes config d) seen ≡ true) → MayGiveUp read config past socket
  may_give_up seen past socket here may given =
      ap (λ x. is_ended (with_changes config x) (without_control past)) here.so ∙ ap (is_ended (with_changes config d)) here.saw
      ∙ may (ap (λ l. is_listener (kind_of socket l) || is_forward (kind_of socket l)) (sym here.saw) ∙ given)

  other : (its theirs : Type 0) (b : Bool) → b ≡ false → theirs → Either b its theirs
  other its theirs b is may = subst (λ x. Either x its theirs) (sym is) may

  -- any but a wait
  abbrev IsOther : Entry → Type 0
  IsOther (Wait wants timeout answer ready) = ⊥
  IsOther _ = Unit {0}

  may_by : (seen past : List Entry) (e : Entry) → IsOther e → IsAt read config d seen past → IsOff e → KeepsTo d.talk.listening (is_some config.control) (with_changes config d) seen e
      → MayByItself read config past (call_of e)
  may_by seen past (Wait wants timeout answer ready) never here off keeps = absurd never
  may_by seen past (Now told) never here off keeps = ap (λ (x : ControlServer). x.talk.listening) here.so ∙ keeps
  may_by seen past (Listen socket at answer) never here off keeps = other _ _ (is_controls socket) off (may_open seen past at here keeps)
  may_by seen past (UdpOpen socket at answer) never here off keeps = (off, may_open seen past at here keeps)
  may_by seen past (Accept from socket answer) never here off keeps = other _ _ (is_controls from) off tt
  may_by seen past (TcpRead socket asked answer octets) never here off keeps = other _ _ (is_controls socket) off tt
  may_by seen past (TcpWrite socket octets answer) never here off keeps = other _ _ (is_controls socket) off tt
  may_by seen past (Close socket) never here off keeps = other _ _ (is_controls socket) off (may_give_up seen past socket here keeps)
  may_by seen past (Connect socket to answer) never here off keeps = off
  may_by seen past (Connected socket answer) never here off keeps = off
  may_by seen past (TcpEnd socket answer) never here off keeps = off
  may_by seen past (UdpSend socket to octets answer) never here off keeps = off
  may_by seen past (UdpRecv socket asked answer octets) never here off keeps = off
  may_by seen past _ never here off keeps = tt

-- what is seen of a longer trace
pub apart_then : (made past : List Entry) → without_control (made ++ past) ≡ without_control made ++ without_control past
apart_then [] past = refl
apart_then (e ∷ made) past = by (is_on_control e) (apart_then made past)
  where
    by : (b : Bool) → without_control (made ++ past) ≡ without_control made ++ without_control past
        → cond b (without_control (made ++ past)) (seen_of e ∷ without_control (made ++ past)) ≡ cond b (without_control made) (seen_of e ∷ without_control made) ++ without_control past
    by true then = then
    by false then = ap (λ l. seen_of e ∷ l) then

-- ---- all of them

module _ (read : Reads) (config : Config) (d : ControlServer) (item : Option Want) (past : List Entry) (own : IsItem item) (wanted : as_list item ≡ wants_of d.talk) (calm : d.awaited ≡ Nothing)
    (here : control_server read config past ≡ d) (none : reported past ≡ []) where
  unawaited : (control_server read config past).awaited ≡ Nothing
  unawaited = ap (λ (x : ControlServer). x.awaited) here ∙ calm

  abbrev before : List Entry
  before = without_control past

  is_at : (made seen : List Entry) → AreSeen item made seen → AreOff seen → IsAt read config d (seen ++ before) (made ++ past)
  is_at made seen are off = record {
    so = control_server_stays read config made past (all_off item made seen own are off) unawaited ∙ here;
    saw = apart_then made past ∙ ap (λ l. l ++ before) (apart_as_seen item made seen own are off);
  }

  reports_so : (made seen : List Entry) → AreSeen item made seen → AreOff seen → AreFew seen → reported (made ++ past) ≡ last_reported item made
  reports_so made seen are off few = reports item made past own (all_off item made seen own are off) (all_for_item item made seen own are off few) none

  by_itself : (e s : Entry) (made seen : List Entry) → IsSeen item e s → AreSeen item made seen → IsOff s → AreOff seen → IsFew s → AreFew seen
      → KeepsTo d.talk.listening (is_some config.control) (with_changes config d) (seen ++ before) s → waits (s ∷ seen ++ before) ≤ waits before + 1 → MayByItself read config (made ++ past) (call_of e)
  by_itself e (Wait wants timeout answer shown) made seen is are off all_off_yet few all_few keeps once =
      let at = is_at made seen are all_off_yet in
      subst (λ x. MayByItself read config (made ++ past) (call_of x)) (sym is.1)
      (record {
        own = subst (IsForItem item) is.1 (all_for_item item (e ∷ made) (Wait wants timeout answer shown ∷ seen) own (is, are) (off, all_off_yet) (few, all_few)).0
            ∙ wanted ∙ ap (λ (x : ControlServer). wants_of x.talk) (sym at.so);
        served = reports_so made seen are all_off_yet all_few ∙ none_yet item made seen before are (let one : waits (seen ++ before) + 1 ≤ waits before + 1 = once in omega (arith, one));
      })
  by_itself e s made seen is are off all_off_yet few all_few keeps once =
      subst (λ x. MayByItself read config (made ++ past) (call_of x)) (sym is) (may_by read config d (seen ++ before) (made ++ past) s tt (is_at made seen are all_off_yet) off keeps)

  may : (made seen : List Entry) (call : Call) → AreSeen item made seen → AreOff seen → MayByItself read config (made ++ past) call → MayControl read config (made ++ past) call
  may made seen call are off by_it = subst (λ a. MayWhere a read config (made ++ past) call) (sym (ap (λ (x : ControlServer). x.awaited) (is_at made seen are off).so ∙ calm)) by_it

  all_may : (made seen : List Entry) → AreSeen item made seen → AreOff seen → AreFew seen → AllKeepTo d.talk.listening (is_some config.control) (with_changes config d) seen before
      → waits (seen ++ before) ≤ waits before + 1 → Follows (MayControl read config) past → Follows (MayControl read config) (made ++ past)
  all_may [] [] are off few keep once follows = follows
  all_may [] (s ∷ seen) are off few keep once follows = absurd are
  all_may (e ∷ made) [] are off few keep once follows = absurd are
  all_may (e ∷ made) (s ∷ seen) are off few keep once follows = (
    may made seen (call_of e) are.1 off.1 (by_itself e s made seen are.0 are.1 off.0 off.1 few.0 few.1 keep.0 once),
    all_may made seen are.1 off.1 few.1 keep.1 (omega (arith, once, wait_more s (seen ++ before))) follows,
  )

  -- the stretch
  pub record IsLed (made seen : List Entry) : Type 0 where
    pub control : Follows (MayControl read config) (made ++ past)
    pub stays : control_server read config (made ++ past) ≡ d
    pub saw : without_control (made ++ past) ≡ seen ++ without_control past
    pub reports : reported (made ++ past) ≡ last_reported item made

  pub led : (made seen : List Entry) → AreSeen item made seen → AreOff seen → AreFew seen → AllKeepTo d.talk.listening (is_some config.control) (with_changes config d) seen before
      → waits (seen ++ before) ≤ waits before + 1 → Follows (MayControl read config) past → IsLed made seen
  led made seen are off few keep once follows = record {
    control = all_may made seen are off few keep once follows;
    stays = (is_at made seen are off).so;
    saw = (is_at made seen are off).saw;
    reports = reports_so made seen are off few;
  }
