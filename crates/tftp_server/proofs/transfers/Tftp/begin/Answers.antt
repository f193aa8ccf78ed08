-- The transfer begins.
use Rattle.std.proofs.Common.{◌≡◌, ℕ, nat_eq, true, false, List, [], length, sym, ◌∙◌, ap, subst}
use Rattle.std.proofs.lemmas.List.{length-map}
use Rattle.world_face.specs.Tells.{Makes}
use Rattle.world_face.proofs.Telling.{makes_none}
use Rattle.rules_tftp.specs.Packets.{options_octets, terms_of}
use Rattle.rules_tftp.specs.Transfers.{Outcome, Transfer, measured, seeks_next, sends, with_room}
use Rattle.rules_tftp.specs.Asking.{IsServed}
use Rattle.tftp_server.specs.Options.{answered_pair}
use Rattle.tftp_server.specs.Serving.{Serving}
use Rattle.rules_tftp.specs.Saying.{said_by}
use Rattle.tftp_server.specs.Rows.{sought, transfer_of}
use Rattle.tftp_server.proofs.Beginning.{begins_next, begins_options}
use Rattle.tftp_server.proofs.transfers.Tftp.begin.Goals as goal

pub returns-then-is_empty-clause-serves : goal.returns-then-is_empty-clause-serves
returns-then-is_empty-clause-serves g c =
    let old = c.args.self.now in
    let now = c.args.now in
    let s = sought old.folder c.args.asker.guest c.args.asker.mac.0 c.args.name.now c.args.options.now in
    let agreed = c.in-Some.agreed in
    let row = c.first_row-row.result in
    let none : nat_eq (length agreed.answered) 0 ≡ true =
    ap (λ (xs : List (List ℕ × ℕ)). nat_eq (length xs) 0) (sym c.answered.ensures.answered) ∙ ap (λ n. nat_eq n 0) (length-map c.answered.result.now answered_pair) ∙ sym c.if-is_empty.ensures in
    let comes =
    ap (λ (v : Serving). seeks_next now (transfer_of v.folder row) v.transfers) c.make_room.ensures.list
    ∙ ap (λ (t : Transfer). seeks_next now t (with_room old.transfers)) (c.first_row-row.ensures.row old.folder s.options)
    ∙ begins_next now c.args.size s agreed (terms_of c.args.size s.options) old.transfers c.in-Some.ensures none in
    subst (λ (o : Outcome). Makes (g.W.World.tells c.args.world.now) (g.W.World.tells c.send_next.new.world)
    (IsServed now o c.send_next.new.self.transfers (said_by c.send_next.result c.send_next.new.into))) comes c.send_next.ensures.serves

pub returns-else-is_empty-clause-serves : goal.returns-else-is_empty-clause-serves
returns-else-is_empty-clause-serves g c =
    let old = c.args.self.now in
    let now = c.args.now in
    let s = sought old.folder c.args.asker.guest c.args.asker.mac.0 c.args.name.now c.args.options.now in
    let agreed = c.in-Some.agreed in
    let row = c.first_row-row.result in
    let some : nat_eq (length agreed.answered) 0 ≡ false =
    ap (λ (xs : List (List ℕ × ℕ)). nat_eq (length xs) 0) (sym c.answered.ensures.answered) ∙ ap (λ n. nat_eq n 0) (length-map c.answered.result.now answered_pair) ∙ sym c.if-is_empty.ensures in
    let comes =
    ap (λ (v : Serving). sends now false (options_octets agreed) (transfer_of v.folder row) v.transfers) c.make_room.ensures.list
    ∙ ap (λ (t : Transfer). sends now false (options_octets agreed) t (with_room old.transfers)) (c.first_row-row.ensures.row old.folder s.options)
    ∙ begins_options now c.args.size s agreed (terms_of c.args.size s.options) old.transfers c.in-Some.ensures some in
    let told = said_by c.send_options.result c.send_options.new.into in
    makes_none (g.W.World.tells c.args.world.now) (IsServed now (measured now c.args.size s (terms_of c.args.size s.options) old.transfers) c.send_options.new.self.transfers told)
    (subst (λ (o : Outcome). IsServed now o c.send_options.new.self.transfers told []) comes c.send_options.ensures.serves)
