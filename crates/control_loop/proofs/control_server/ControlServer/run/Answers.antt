use Rattle.std.proofs.Common.{◌≡◌, List, [], ◌∷◌, ◌++◌, false, length, map, reverse, None, refl, sym, ◌∙◌, ap, subst, arith}
use Rattle.world_face.specs.Journal.{AreAllowed, Close, Entry, Listen}
use Rattle.world_face.specs.Tells.{Makes}
use Rattle.world_face.specs.declared.Made.{Made}
use Rattle.world_face.specs.declared.Made.TheVariants.{Done, Failed}
use Rattle.world_face.proofs.Telling.{makes_then}
use Rattle.slirp_settings.specs.Addresses.{Config}
use Rattle.stream_netdev.specs.State.{LinkState}
use Rattle.tcp_flows.specs.Kept.{Kept}
use Rattle.tcp_flows.specs.Reading.{NoneInSlots}
use Rattle.rules_forward.specs.Opened.{forward_sockets}
use Rattle.slirp_core.specs.Holds.{HoldsNothingElse, Opens, after, as_given}
use Rattle.slirp_core.specs.State.{SlirpState}
use Rattle.serve_loop.proofs.Serving.{reads_new}
use Rattle.serve_loop.proofs.Turning.{none_is_calm}
use Rattle.serve_loop.specs.Served.{ServiceState}
use Rattle.serve_loop.specs.Turns.{AttendsNow}
use Rattle.serve_loop.specs.declared.service.End.TheVariants.{ControlRefused}
use Rattle.stream_netdev.specs.Keeps.{ReadsOn}
use Rattle.stream_netdev.specs.State.{under_way}
use Rattle.rules_control.specs.Talk.{after_listen, listener, silent, want_of}
use Rattle.control.specs.Stretches.{AreSeen}
use Rattle.spec_control.specs.ControlServer.{Reads}
use Rattle.spec_control.specs.Laws.{IsReading}
use Rattle.control_loop.specs.Runs.{RunsWith}
use Rattle.control_loop.specs.Standing.{Stands}
use Rattle.control_loop.specs.declared.control_server.ControlServer.{ControlServer}
use Rattle.control_loop.proofs.Ending.{refused_all}
use Rattle.control_loop.proofs.Started.{begun, control_refused}
use Rattle.control_loop.proofs.Stretch.{none_yet}
use Rattle.control_loop.proofs.control_server.ControlServer.run.Goals as goal

-- all ports of the settings are open, and then the control's listener was asked for
abbrev HasAsked : Config → (answer : Made) → ControlServer → (made : List Entry) → Type 0
HasAsked config answer opened made =
    (so_far : List Entry) × (seen : List Entry) × (made ≡ Listen listener opened.at answer ∷ so_far) × AreSeen None so_far seen × AreAllowed seen
    × ((settings : Config) → config ≡ as_given settings → Opens settings (length settings.forwards) opened.service.slirp opened.service.link seen)

pub returns-in-Some-clause-makes : goal.returns-in-Some-clause-makes
returns-in-Some-clause-makes g c =
    let opened = (c.open_ports.new.self).service in
    makes_then _ _ _ _ _ _ c.in-Some.ensures.makes c.close_ports.ensures.makes (λ made more told closes read reading.
    refused_all read c.args.self.now.service.slirp.config c.requires.set.given c.in-Some.place opened.slirp opened.link made told.0 more told.1 told.2 told.3 c.open_ports.ensures.number closes.0 closes.1 closes.2)

pub returns-in-Failed-clause-makes : goal.returns-in-Failed-clause-makes
returns-in-Failed-clause-makes g c =
    let old = c.args.self.now in
    let config = old.service.slirp.config in
    let set = c.requires.set in
    let opened : ControlServer = c.open_ports.new.self in
    let slirp = opened.service.slirp in
    let here : opened.at ≡ old.at = ap (λ (x : ControlServer). x.at) c.open_ports.ensures.others in
    let opens = c.in_default.ensures.makes.holds.3 config set.given in
    let closed = subst (λ (s : ServiceState). HoldsNothingElse s.slirp → Makes (g.W.World.tells c.listen.new.world.world) (g.W.World.tells c.close_ports-in-Failed.new.world.world) (λ made. made ≡ map Close (reverse (forward_sockets s.slirp.forwards))))
    (ap (λ (x : ControlServer). x.service) c.listen.ensures.others) c.close_ports-in-Failed.ensures.ports (record { alone = opens.alone; unnamed = opens.unnamed; none = opens.none }) in
    makes_then _ _ _ _ _ _ (makes_then _ _ _ _ _ (HasAsked config Failed opened) c.in_default.ensures.makes c.in-Failed.ensures.makes
    (λ made more told is. (made, told.0, ap (λ l. l ++ made) is, told.1, told.2, told.3))) closed
    (λ made more told is read reading.
    subst (λ l. RunsWith read config ControlRefused (more ++ l)) (sym (told.2 ∙ ap (λ e. Listen listener e Failed ∷ told.0) here))
    (control_refused read config old.at set.given set.control slirp opened.service.link told.0 told.1 told.3 told.4 told.5 c.open_ports.ensures.number more is))

pub turn_on-requires-clause-fit : goal.turn_on-requires-clause-fit
turn_on-requires-clause-fit g c =
    let old = c.args.self.now in
    let new = (c.begin.new.self).service in
    let opens = c.in_default.ensures.makes.holds.3 old.service.slirp.config c.requires.set.given in
    let link : new.link ≡ old.service.link = c.begin.ensures.link ∙ ap (λ (x : ControlServer). x.service.link) c.listen.ensures.others ∙ c.open_ports.ensures.link in
    let slirp : new.slirp ≡ record (c.open_ports.new.self).service.slirp { moment = new.slirp.moment } =
    c.begin.ensures.slirp ∙ ap (λ (x : ControlServer). record x.service.slirp { moment = new.slirp.moment }) c.listen.ensures.others in
    let flows = ap (λ (s : SlirpState). s.flows.turn) slirp ∙ ap (λ (s : SlirpState). s.flows.turn) c.open_ports.ensures.slirp ∙ ap (λ (k : Kept). k.turn) c.requires.new.flows in
    record {
      on = subst (λ (l : LinkState). ReadsOn (under_way l)) (sym link) (reads_new old.service c.requires.new);
      calm = none_is_calm new.slirp new.link (subst (λ (s : SlirpState). NoneInSlots s.flows.flows.slots) (sym slirp) opens.none);
      number = omega (arith, ap (λ (s : SlirpState). s.number) slirp, c.open_ports.ensures.number);
      turns = omega (arith, flows);
    }

pub returns-clause-makes : goal.returns-clause-makes
returns-clause-makes g c =
    let old = c.args.self.now in
    let config = old.service.slirp.config in
    let set = c.requires.set in
    let opened : ControlServer = c.open_ports.new.self in
    let slirp = opened.service.slirp in
    let b : ControlServer = c.begin.new.self in
    let new = b.service.slirp in
    let new_link = b.service.link in
    let heard = after_listen Done silent in
    let here : opened.at ≡ old.at = ap (λ (x : ControlServer). x.at) c.open_ports.ensures.others in
    let mid_is : c.listen.new.self ≡ record opened { session = heard } =
    c.in_default-listen.ensures.others ∙ ap (λ t. record opened { session = after_listen Done t }) (ap (λ (x : ControlServer). x.session) c.open_ports.ensures.others ∙ c.requires.silent) in
    let session_is : b.session ≡ heard = ap (λ (x : ControlServer). x.session) c.begin.ensures.others ∙ ap (λ (x : ControlServer). x.session) mid_is in
    let slirp_is : new ≡ record slirp { moment = new.moment } = c.begin.ensures.slirp ∙ ap (λ (x : ControlServer). record x.service.slirp { moment = new.moment }) mid_is in
    let config_is : new.config ≡ config = ap (λ (s : SlirpState). s.config) slirp_is ∙ ap (λ (s : SlirpState). s.config) c.open_ports.ensures.slirp in
    let asked = makes_then _ _ _ _ _ (HasAsked config Done opened) c.in_default.ensures.makes c.in_default-listen.ensures.makes (λ made more told is. (made, told.0, ap (λ l. l ++ made) is, told.1, told.2, told.3)) in
    let begins = subst (λ (x : ControlServer). Makes (g.W.World.tells c.listen.new.world.world) (g.W.World.tells c.begin.new.world.world) (λ made. (seen : List Entry) × AreSeen (want_of x.session) made seen × AreAllowed seen
    × ((settings : Config) (past : List Entry) → Opens settings (length settings.forwards) x.service.slirp x.service.link past → AttendsNow settings (after 0) false new new_link (seen ++ past)))) mid_is c.begin.ensures.makes in
    let stands = makes_then _ _ _ _ _ (λ made. (read : Reads) → IsReading config read → Stands [] b.session new new_link read config 0 made) asked begins (λ made more told led read reading.
    let attends : (settings : Config) → config ≡ as_given settings → AttendsNow settings (after 0) false new new_link (led.0 ++ told.1) = λ settings given. led.3 settings told.1 (told.5 settings given) in
    let none = none_yet (want_of heard) more led.0 told.1 led.1 (let unwaited = (attends config set.given).0.clock.counted in omega (arith, unwaited)) in
    subst (λ t. Stands [] t new new_link read config 0 (more ++ made)) (sym session_is)
    (subst (λ l. Stands [] heard new new_link read config 0 (more ++ l)) (sym (told.2 ∙ ap (λ e. Listen listener e Done ∷ told.0) here))
    (subst (λ items. Stands items heard new new_link read config 0 (more ++ (Listen listener old.at Done ∷ told.0))) none
    (begun read config old.at set.given set.control slirp opened.service.link told.0 told.1 told.3 told.4 told.5 c.open_ports.ensures.number new new_link (want_of heard) (refl, refl) refl more led.0 led.1 led.2 attends
    (omega (arith, ap (λ (s : SlirpState). s.number) slirp_is, c.open_ports.ensures.number)) (ap (λ (s : SlirpState). s.forwards) slirp_is))))) in
    let runs = subst (λ (k : Config). Makes (g.W.World.tells c.begin.new.world.world) (g.W.World.tells c.turn_on.new.world.world) (λ made. (read : Reads) → IsReading k read → (past : List Entry)
    → Stands [] b.session new new_link read k 0 past → RunsWith read k c.turn_on.result (made ++ past))) config_is c.turn_on.ensures.makes in
    makes_then _ _ _ _ _ _ stands runs (λ made more so_far run read reading. run read reading made (so_far read reading))
