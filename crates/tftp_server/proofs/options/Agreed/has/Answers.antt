use Rattle.std.proofs.Common.{sym, ◌∙◌, ap}
use Rattle.rules_tftp.specs.Packets.{Terms, has_answered}
use Rattle.tftp_server.specs.Options.{is_among, name_of}
use Rattle.tftp_server.proofs.Agreeing.{among_map}
use Rattle.tftp_server.proofs.options.Agreed.has.Goals as goal

pub returns : goal.returns
returns c =
    c.has.ensures ∙ ap (is_among c.args.option) c.as_slice.ensures.value ∙ sym (among_map (name_of c.args.option) c.self.inside.answered.items) ∙ ap
    (λ (t : Terms). has_answered (name_of c.args.option) t) c.self.view_is
