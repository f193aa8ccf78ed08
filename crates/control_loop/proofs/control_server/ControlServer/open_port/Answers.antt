use Rattle.std.proofs.Common.{◌≡◌, ℕ, ◌<◌, Bool, false, List, [], ◌∷◌, Option, Some, None, refl, sym, ◌∙◌, ap, subst, if◌then◌else◌}
use Rattle.std.specs.List.{list_any}
use Rattle.std.specs.Result.{result_err}
use Rattle.net_octets.specs.declared.Endpoint.{Endpoint}
use Rattle.world_face.specs.Journal.{Entry}
use Rattle.world_face.specs.declared.Made.{Made}
use Rattle.world_face.proofs.Telling.{makes_as}
use Rattle.slirp_settings.specs.Addresses.{Config}
use Rattle.slirp_settings.specs.declared.Forward.{Forward}
use Rattle.slirp_settings.specs.declared.Proto.{Proto}
use Rattle.slirp_settings.specs.declared.Proto.TheVariants.{Tcp, Udp}
use Rattle.rules_forward.specs.Adding.{Adds, fault_of, opening_of}
use Rattle.rules_forward.specs.Opened.{Opened}
use Rattle.rules_forward.specs.declared.FwdFault.{FwdFault}
use Rattle.rules_forward.specs.declared.FwdFault.TheVariants.{Taken}
use Rattle.slirp_core.specs.Added.{MayAdd}
use Rattle.slirp_core.specs.Holds.{after}
use Rattle.serve_loop.specs.Turns.{AttendsNow}
use Rattle.control.proofs.Apartness.{is_wait}
use Rattle.control_loop.specs.Standing.{cause_against}
use Rattle.control_loop.proofs.Below.{called_and_brought}
use Rattle.control_loop.proofs.control_server.ControlServer.open_port.Goals as goal

none_waits : (proto : Proto) (number : ℕ) (host : Endpoint) (answer : Made) → list_any is_wait (opening_of proto number host answer ∷ []) ≡ false
none_waits Tcp number host answer = refl
none_waits Udp number host answer = refl

no_wait : (cause : Option FwdFault) (f : Forward) (number : ℕ) (old new : List Opened) (fault : Option FwdFault) (made : List Entry) → Adds cause f number old new fault made → list_any is_wait made ≡ false
no_wait (Some cause) f number old new fault made adds = ap (list_any is_wait) adds.2
no_wait None f number old new fault made adds = ap (list_any is_wait) adds.1 ∙ none_waits f.proto number f.host adds.0

pub returns-clause-adds : goal.returns-clause-adds
returns-clause-adds g c =
    let old = c.args.self.now.service in
    let new = c.add_hostfwd-added.new.self in
    let fault = result_err c.add_hostfwd-added.result in
    let cause = fault_of old.slirp.config c.args.forward old.slirp.forwards in
    let same : cause_against old.slirp.config c.args.self.now.at c.args.forward old.slirp.forwards ≡ cause =
    ap (λ (b : Bool). if b then Some Taken else cause) (sym c.is_its_own.ensures ∙ c.if-is_its_own.false) in
    makes_as _ _ _ _
    (called_and_brought g.W.World.tells c.args.world.now c.begin.new.self c.add_hostfwd-added.new.world c.begin-2.new.self
    (Adds cause c.args.forward old.slirp.number old.slirp.forwards new.slirp.forwards fault) ((settings : Config) × (count : ℕ) × (0 < count) × MayAdd settings old.slirp c.args.forward)
    (λ i past. AttendsNow i.0 (after i.1) false old.slirp old.link past) (λ i past. AttendsNow i.0 (after i.1) false new.slirp new.link past) c.begin.ensures.begun c.begin-2.ensures.begun
    c.add_hostfwd-added.ensures.adds (λ i. c.add_hostfwd-added.ensures.makes i.0 i.1 i.2 i.3) (no_wait cause c.args.forward old.slirp.number old.slirp.forwards new.slirp.forwards fault)
    c.begin-2.ensures.passed)
    (λ made both. (
      subst (λ o. Adds o c.args.forward old.slirp.number old.slirp.forwards new.slirp.forwards fault made) (sym same) both.0,
      λ settings count some may past attended. both.1 (settings, count, some, may) past attended,
    ))
