-- The block's packet is the last of all.
use Rattle.std.proofs.Common.{◌≡◌, ℕ, ◌+◌, ◌-◌, ◌*◌, ◌≤◌, ◌%◌, ◌^◌, min, nat_lt, List, [], ◌∷◌, ◌++◌, length, take, sym, ◌∙◌, ap, arith}
use Rattle.std.proofs.lemmas.List.{length-take-le}
use Rattle.rules_tftp.specs.Packets.{block_octets}
use Rattle.rules_tftp.specs.Saying.{most_packet}
use Rattle.rules_tftp.specs.Transfers.{sending}
use Rattle.tftp_server.specs.Serving.{Serving}
use Rattle.tftp_server.specs.Rows.{next_of}
use Rattle.tftp_server.proofs.transfers.Tftp.send_block.Goals as goal

-- how many octets there are
there : (count long size place : ℕ) (into : List ℕ) → count ≡ min (long - place) size → size ≤ 1468 → most_packet ≤ length into → length (take count into) ≡ count
there count long size place into is few room = length-take-le count into (omega (arith, is, few, room))

pub returns-clause-list : goal.returns-clause-list
returns-clause-list c =
    let old = c.args.self.now in
    let row = c.args.row in
    let count = c.args.count in
    let octets = take count c.args.into.now in
    let next = next_of old.folder row in
    c.send.ensures.list
    ∙ ap (λ (p : List ℕ). let s : Serving = record old { transfers = old.transfers ++ (sending c.args.now (nat_lt count row.size) p next ∷ []) } in s) c.block_packet-row.ensures
    ∙ ap (λ (n : ℕ). let s : Serving = record old { transfers = old.transfers ++ (sending c.args.now (nat_lt n row.size) (block_octets ((row.block + 1) % 2 ^ 16) octets) next ∷ []) } in s)
    (sym (there count row.length row.size (row.block * row.size) c.args.into.now c.requires.whole row.most c.requires.room))
