-- What is written stands at the front.
use Rattle.std.proofs.Common.{◌≡◌, [], ◌++◌, Bool, false, sym, ◌∙◌, subst, length, drop, if◌then◌else◌, ◌≤◌, arith}
use Rattle.slirp_settings.specs.Settings.{settings}
use Rattle.rules_dhcp.specs.Replies.{is_silence, reply_octets}
use Rattle.dhcp_server.proofs.Adding.{all_written}
use Rattle.dhcp_server.proofs.reply.write_reply.Goals as goal

pub returns-clause-octets : goal.returns-clause-octets
returns-clause-octets c =
    let old = c.args.into.now in
    let new = c.write-length.new.into in
    let octets = reply_octets (settings c.args.config.now) c.args.m.now c.args.answer in
    let answered : is_silence c.args.answer ≡ false = sym c.is_silence.ensures ∙ c.if-is_silence.false in
    subst (λ (b : Bool). new ≡ (if b then [] else octets) ++ drop (length (if b then [] else octets)) old) (sym answered) (all_written old new octets _ c.write-length.ensures.written)

pub returns-clause-few : goal.returns-clause-few
returns-clause-few c =
    let octets = reply_octets (settings c.args.config.now) c.args.m.now c.args.answer in
    let answered : is_silence c.args.answer ≡ false = sym c.is_silence.ensures ∙ c.if-is_silence.false in
    let most : length octets ≤ 790 = omega (arith, c.write-length.ensures.written.end_is, c.write-length.ensures.end) in
    subst (λ (b : Bool). length (if b then [] else octets) ≤ 790) (sym answered) most
