-- A run from its first call to its last.
use Rattle.std.proofs.Common.{◌≡◌, Bool, ℕ, ◌≤◌, false, List, [], ◌++◌, Some, refl, sym, ◌∙◌, ap, subst, arith}
use Rattle.std.proofs.lemmas.List.{append-nil}
use Rattle.world_face.specs.Journal.{Entry}
use Rattle.world_face.specs.Tells.{Telling, Makes}
use Rattle.world_face.proofs.Telling.{makes_as, makes_then}
use Rattle.world_face.proofs.Following.{heard}
use Rattle.slirp_settings.specs.Addresses.{Config}
use Rattle.spec_trace.specs.Moments.{waits}
use Rattle.spec_trace.specs.Shape.{phase}
use Rattle.spec_trace.specs.Sockets.{next_number}
use Rattle.spec_run.specs.Datagrams.{NeedsNothing}
use Rattle.spec_run.specs.Laws.{Finished, Lawful}
use Rattle.spec_run.specs.Served.{Served}
use Rattle.spec_run.proofs.Sentences.{served}
use Rattle.stream_netdev.specs.Keeps.{ReadsOn}
use Rattle.stream_netdev.specs.State.{LinkState, under_way}
use Rattle.stream_netdev.proofs.Reading.{reads_first}
use Rattle.tcp_flows.specs.Kept.{IsFor, Kept}
use Rattle.rules_forward.specs.Opened.{Opened}
use Rattle.slirp_core.specs.Forwards.{AreCloses}
use Rattle.rules_forward.specs.Opened.{forward_sockets}
use Rattle.slirp_core.specs.Holds.{AfterListening, after, flowing, Begins, ClosesAll, Closing, Opens, Stands, Turns, Holders, as_given, holders_of}
use Rattle.slirp_core.specs.Numbers.{flows_for}
use Rattle.slirp_core.specs.State.{SlirpState}
use Rattle.spec_duties.specs.Duties.{Attended, Dutiful, Must}
use Rattle.spec_duties.specs.Serving.{AllServed}
use Rattle.spec_duties.proofs.Serving.{all_served_on}
use Rattle.spec_duties.proofs.Ended.{dutiful_to_the_end, dutiful_unwaited, ended_yet, refused_unwaited}
use Rattle.slirp_core.proofs.Closes.{draw_none}
use Rattle.slirp_core.proofs.Starting.{IsUnbegun, begun, ran as ran_by, spent as spent_by}
use Rattle.serve_loop.specs.Ends.{end_of}
use Rattle.serve_loop.specs.Turns.{AttendsTo, Closes, EndedAs, HoldsNow, RanTo}
use Rattle.serve_loop.specs.Served.{IsNew, ServiceState}
use Rattle.serve_loop.specs.declared.service.End.{End}
use Rattle.serve_loop.specs.declared.service.End.TheVariants.{ListenRefused, TurnsSpent}

-- before the first turn
flows_fit : (config : Config) → IsFor config (flows_for config)
flows_fit config = record { ring = refl; mtu = refl; mru = refl; congestion = refl; vhost = refl }

unbegun : (service : ServiceState) (config : Config) → service.slirp.config ≡ as_given config → IsNew service → IsUnbegun config service.slirp service.link
unbegun service config given new =
    let flows : service.slirp.flows ≡ flows_for config = new.flows ∙ ap flows_for given in
    record {
      forwards = new.forwards;
      settings = given;
      flows = record { flows = ap (λ (k : Kept). k.flows) flows; settings = subst (IsFor config) (sym flows) (flows_fit config); unit = subst (λ (k : Config). 28 ≤ k.mtu) given new.unit };
      known = new.known;
      sent = new.sent;
      pending = new.pending;
      moment = new.moment;
      number = new.number;
      associations = new.associations;
      questions = new.questions;
      fragments = new.fragments;
      leases = new.leases;
      transfers = new.transfers;
      input = new.input;
      output = new.output;
      free = new.free;
    }

-- nothing was done yet
pub opens : (service : ServiceState) (config : Config) → service.slirp.config ≡ as_given config → IsNew service → Opens config 0 service.slirp service.link []
opens service config given new = begun config service.slirp service.link (unbegun service config given new)

-- the host refused a forward
pub refused : (config : Config) (place : ℕ) (slirp : SlirpState) (link : LinkState) (made : List Entry) → AfterListening (Some place) config slirp link made
    → Closes config (ListenRefused place) slirp.forwards (holders_of slirp) made
refused config place slirp link made listened = record {
  closing = subst (λ p. Closing config p (forward_sockets slirp.forwards) (holders_of slirp) made) listened.0.is listened.0;
  is = ap (end_of config) listened.0.is;
}

pub reads_new : (service : ServiceState) → IsNew service → ReadsOn (under_way service.link)
reads_new service new = subst ReadsOn (sym new.input) reads_first

-- a run that an entry ended
pub ran : (config : Config) (count : ℕ) (end : End) (forwards : List Opened) (o : Holders) (number : ℕ) (made : List Entry) → EndedAs config count end forwards o number made
    → Closes config end forwards o made
ran config count end forwards o number made ended = record { closing = ran_by config count ended.why forwards o made ended.ended; is = ended.is ∙ sym (ap (end_of config) ended.ended.over) }

-- after as many waits as there may be
pub spent : (config : Config) (count turns : ℕ) (service : ServiceState) (made : List Entry) → 1 ≤ config.turns → config.turns ≤ count → turns ≡ config.turns → HoldsNow config
    (after count) false service.slirp service.link made
    → Closes config (TurnsSpent turns) service.slirp.forwards (holders_of service.slirp) made
spent config count turns service made some all is holds = record {
  closing = spent_by config count service.slirp (flowing false service.slirp.flows) service.link made some all holds;
  is = ap TurnsSpent is ∙ so holds.stands;
}
  where
    so : Stands config NeedsNothing service.slirp service.slirp.flows service.link made → TurnsSpent config.turns ≡ end_of config (phase config made)
    so (Turns turn) = sym (ap (end_of config) turn.working)
    so (Begins first free unrested) = sym (ap (end_of config) first.started)

-- all its sockets were closed then
pub ran_to : (config : Config) (end : End) (forwards : List Opened) (o : Holders) (more past : List Entry) → Closes config end forwards o past
    → ClosesAll forwards o more → RanTo config end (more ++ past)
ran_to config end forwards o more past closes all =
    let over = all config (phase config past) past closes.closing in (over.0, over.1, closes.is ∙ ap (end_of config) over.2)

-- and what attended so far attends to the end
pub attends_to : (config : Config) (end : End) (forwards : List Opened) (o : Holders) (more past : List Entry) → Closes config end forwards o past → Dutiful config past
    → ClosesAll forwards o more → AttendsTo config end (more ++ past)
attends_to config end forwards o more past closes attentive all = (
  ran_to config end forwards o more past closes all,
  dutiful_to_the_end config more past (all config (phase config past) past closes.closing).0 closes.closing.ended attentive,
)

-- closing them it waits no more
waits_no_more : (config : Config) (end : End) (forwards : List Opened) (o : Holders) (more past : List Entry) → Closes config end forwards o past → ClosesAll forwards o more
    → waits (more ++ past) ≡ waits past
waits_no_more config end forwards o more past closes all = (ended_yet config more past (all config (phase config past) past closes.closing).0 closes.closing.ended).1

-- a turn that ended a run which attended so far, waited so often at most, and drew so many numbers
pub attends_for : (config : Config) (most number : ℕ) (end : End) (forwards : List Opened) (o : Holders) (more past : List Entry) → Closes config end forwards o past → waits past ≤ most
    → number ≡ next_number past → Dutiful config past → ClosesAll forwards o more × AreCloses more
    → (RanTo config end (more ++ past) × (waits (more ++ past) ≤ most) × (next_number (more ++ past) ≤ number)) × Dutiful config (more ++ past)
attends_for config most number end forwards o more past closes few drawn attentive all =
    let run = attends_to config end forwards o more past closes attentive all.0 in
    let no_more : next_number (more ++ past) ≡ number = draw_none more past all.1 ∙ sym drawn in
    ((run.0, subst (λ n. n ≤ most) (sym (waits_no_more config end forwards o more past closes all.0)) few, omega (arith, no_more)), run.1)

pub finishes : (config : Config) (end : End) (forwards : List Opened) (o : Holders) (a b c : Telling) → Makes a b (λ past. Closes config end forwards o past × Dutiful config past)
    → Makes b c (λ made. ClosesAll forwards o made × AreCloses made) → Makes a c (AttendsTo config end)
finishes config end forwards o a b c ran closed = makes_then a b c _ _ (AttendsTo config end) ran closed (λ made more closes all. attends_to config end forwards o more made closes.0 closes.1 all.0)

-- a run whose first wait hasn't been attends
pub none_waited : (config : Config) (count : ℕ) (aged : Bool) (slirp : SlirpState) (link : LinkState) (made : List Entry) → count ≡ 0 → HoldsNow config
    (after count) aged slirp link made → Dutiful config made
none_waited config count aged slirp link made none holds = dutiful_unwaited config made (holds.clock.counted ∙ none)

-- and has no reports
pub none_reported : (config : Config) (made : List Entry) → waits made ≡ 0 → AllServed config made
none_reported config made none =
    let same : made ++ [] ≡ made = append-nil made in
    subst (AllServed config) same (all_served_on config made [] (ap waits same ∙ none) (λ who. record { reading = refl; writing = refl }))

-- nor did one wait whose forward the host refused
unwaited : (config : Config) (place : ℕ) (slirp : SlirpState) (link : LinkState) (made : List Entry) → AfterListening (Some place) config slirp link made → waits made ≡ 0
unwaited config place slirp link made listened = refused_unwaited config made place listened.0.lawful (sym listened.0.is)

pub refuses : (config : Config) (place number : ℕ) (slirp : SlirpState) (link : LinkState) (a b c : Telling) → number ≡ slirp.number
    → Makes a b (AfterListening (Some place) config slirp link) → Makes b c (λ made. ClosesAll slirp.forwards (holders_of slirp) made × AreCloses made)
    → Makes a c (λ made. (RanTo config (ListenRefused place) made × (waits made ≤ 0) × (next_number made ≤ number)) × Dutiful config made)
refuses config place number slirp link a b c same listened closed =
    makes_then a b c _ _ (λ made. (RanTo config (ListenRefused place) made × (waits made ≤ 0) × (next_number made ≤ number)) × Dutiful config made) listened closed (λ made more refusal all.
    let none = unwaited config place slirp link made refusal in
    attends_for config 0 number (ListenRefused place) slirp.forwards (holders_of slirp) more made (refused config place slirp link made refusal) (omega (arith, none))
    (same ∙ sym refusal.1) (dutiful_unwaited config made none) all)

-- what a run made
abbrev pub Made : Config → End → List Entry → Type 0
Made config end made = Lawful config made × Dutiful config made × Finished config made × (end ≡ end_of config (phase config made))

pub made_so : (config : Config) (end : End) (made : List Entry) → AttendsTo config end made → Made config end made
made_so config end made run = (run.0.0, run.1, run.0.1, run.0.2)

-- the same of a run that a turn ended, with so many waits at most, and so many sockets
pub made_by_turn : (config : Config) (end : End) (most number : ℕ) (made : List Entry)
    → (RanTo config end made × (waits made ≤ most) × (next_number made ≤ number)) × Dutiful config made → Made config end made
made_by_turn config end most number made run = made_so config end made (run.0.0, run.1)

pub told : (config : Config) (end : End) (old new : Telling) → Makes old new (Made config end) → Served config old new
told config end old new makes = served config old new (makes_as old new (Made config end) (λ made. Lawful config made × Finished config made) makes (λ made run. (run.0, run.2)))

pub attended : (config : Config) (end : End) (old new : Telling) → Makes old new (Made config end) → Attended config old new
attended config end old new makes live =
    heard {May = Must config} {Finished = λ made. Unit {0}} (makes_as old new (Made config end) (λ made. Dutiful config made × Unit {0}) makes (λ made run. (run.1, tt))) live
