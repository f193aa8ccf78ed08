use Rattle.std.proofs.Common.{ℕ, ◌≡◌, ◌<◌, ◌≤◌, All, unwrap_or, sym, ◌∙◌, ap, subst, arith}
use Rattle.std.proofs.lemmas.List.Elements.{All-nil}
use Rattle.slirp_settings.specs.Addresses.{Config}
use Rattle.slirp_settings.specs.Settings.{settings}
use Rattle.dns_relay.specs.Asking.{bind_for}
use Rattle.rules_dns.specs.Questions.{numbers as question_numbers}
use Rattle.dns_relay.specs.State.{RelayState}
use Rattle.slirp_core.specs.Services.{AreAsked, IsServer}
use Rattle.rules_udp.specs.Associations.{numbers}
use Rattle.udp_assoc.specs.State.{AssocsState}
use Rattle.slirp_core.specs.Numbers.{AreDrawn}
use Rattle.slirp_core.proofs.Drawn.{drawn_none}
use Rattle.slirp_core.proofs.Sizes.{flows_between}
use Rattle.slirp_core.proofs.network.Slirp.begun.Goals as goal

pub invariant_of-result : goal.invariant_of-result
invariant_of-result c =
    let config = settings c.args.c.now in (
      subst (λ (s : AssocsState). All (λ n. n < 0) (numbers s.list)) (sym c.new-3.ensures) (All-nil (λ n. n < 0)),
      omega arith,
      ap (λ (s : AssocsState). s.bind) c.new-3.ensures ∙ c.bind_for.ensures ∙ sym (ap (λ (k : Config). unwrap_or k.outbound 0) c.new.ensures),
      subst (AreDrawn 0) (sym c.requires.flows) (drawn_none config (flows_between config c.requires.sound).1),
      c.new-5.ensures.config ∙ sym c.new.ensures,
      c.requires.message,
      subst (λ (k : Config). AreAsked 0 k c.new-4.result) (sym c.new.ensures)
          (record {
            below = subst (λ (r : RelayState). All (λ n. n < 0) (question_numbers r.list)) (sym c.new-4.ensures) (All-nil (λ n. n < 0));
            is = c.new-4.ensures ∙ ap
                (λ (r : RelayState). record { bind = bind_for config; resolver = config.resolver; name_server = config.vnameserver; list = r.list }) (sym c.new-4.ensures);
          }),
      subst (λ (k : Config). IsServer k c.args.servers.files) (sym c.new.ensures) c.requires.files,
    )
