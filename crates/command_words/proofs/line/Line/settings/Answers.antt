use Rattle.std.proofs.Common.{◌≡◌, ℕ, List, Option, sym, ◌∙◌, ap, subst}
use Rattle.std.proofs.lemmas.Result.{err_from_is_err_and}
use Rattle.slirp_settings.specs.Addresses.{Config}
use Rattle.slirp_settings.specs.declared.Denial.{Denial}
use Rattle.slirp_settings.specs.declared.Forward.{Forward}
use Rattle.slirp_settings.specs.declared.GuestFwd.{GuestFwd}
use Rattle.command_words.specs.Narrowing.{narrowed_settings}
use Rattle.command_words.specs.Options.{Word, value_in}
use Rattle.address_text.specs.Rules.{AreForwards, AreGuestForwards}
use Rattle.command_words.specs.Texts.{AreDenials}
use Rattle.command_words.specs.Walking.{walk_of}
use Rattle.command_words.proofs.Only.{one_start}
use Rattle.command_words.proofs.Ruled.{rule_words}
use Rattle.command_words.proofs.Settled.{with_forwards}
use Rattle.command_words.proofs.line.Line.settings.Goals as goal

pub returns-in_err-put_forwards-clause-refused : goal.returns-in_err-put_forwards-clause-refused
returns-in_err-put_forwards-clause-refused c = let p = err_from_is_err_and c.from_residual-in_err-put_forwards.result c.from_residual-in_err-put_forwards.ensures.1 in rw (p.1)
    (λ config are rules led denied.
    let given : Word → Option Word = value_in (walk_of c.args.self.now).options in
    let led = c.in_ok-put_guests.ensures.put in
    let put = c.in_ok-put_denied.ensures.put in
    let set = c.in_ok-put_settings.ensures.set led.0 put.0 led.2 put.2 in
    let start : config.dhcp_start ≡ c.put_settings.new.config.vdhcp_start.0 = one_start given config set.0 are set.1 ∙ sym (ap (λ (k : Config). k.dhcp_start) set.4) in
    c.in_err-put_forwards.ensures.refused config.forwards (subst (λ (n : ℕ). AreForwards (rule_words c.args.rules.now) n config.forwards) start rules))

pub returns-clause-set : goal.returns-clause-set
returns-clause-set c =
    let given : Word → Option Word = value_in (walk_of c.args.self.now).options in
    let denied = c.in_ok-put_denied.ensures.put in
    let led = c.in_ok-put_guests.ensures.put in
    let set = c.in_ok-put_settings.ensures.set led.0 denied.0 led.2 denied.2 in
    let put = c.in_ok-put_forwards.ensures.put in
    let start : c.put_settings.new.config.vdhcp_start.0 ≡ set.0.dhcp_start = ap (λ (k : Config). k.dhcp_start) set.4 in (
      record set.0 { forwards = put.0 },
      with_forwards given set.0 put.0 set.1,
      subst (λ (n : ℕ). AreForwards (rule_words c.args.rules.now) n put.0) start put.1,
      subst (λ (g : List GuestFwd). AreGuestForwards (rule_words c.args.guests.now) g) (sym set.2) led.1,
      subst (λ (ds : List Denial). AreDenials (rule_words c.args.denied.now) ds) (sym set.3) denied.1,
      ap (λ (k : Config). record k { forwards = c.put_forwards.new.forwards.items }) set.4 ∙ ap (λ (f : List Forward). record (narrowed_settings set.0) { forwards = f }) put.2,
    )
