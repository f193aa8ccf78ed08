-- The transfer is the last of all.
use Rattle.std.proofs.Common.{◌≡◌, ℕ, ◌+◌, ◌<◌, ◌≤◌, length, find, None, is_ok, Result, Ok, Err, OnErr, cond, true, refl, sym, subst, arith}
use Rattle.std.specs.Option.{option_map}
use Rattle.std.specs.Vec.{vec_len, vec_capacity}
use Rattle.std.proofs.lemmas.List.{length-map}
use Rattle.rules_tftp.specs.Transfers.{is_for}
use Rattle.tftp_server.specs.Serving.{Serving}
use Rattle.tftp_server.specs.Rows.{transfer_of, transfers_of}
use Rattle.tftp_server.proofs.Keeping.{apart_pushed}
use Rattle.tftp_server.proofs.transfers.Tftp.send.Goals as goal

module _ {T E : Type 0} where
  at_most_one : (r : Result T E) (n m : ℕ) → m ≡ cond (is_ok r) (n + 1) n → m ≤ n + 1
  at_most_one (Ok x) n m is = omega (arith, is)
  at_most_one (Err e) n m is = omega (arith, is)

  is_done : (r : Result T E) (n room : ℕ) → OnErr r (room ≤ n) → n < room → is_ok r ≡ true
  is_done (Ok x) n room full less = refl
  is_done (Err e) n room full less = absurd (omega (arith, full, less))

pub invariant_of-self : goal.invariant_of-self
invariant_of-self c =
    let folder = option_map (λ f. f.bytes) c.self.inside.folder in
    let rows = c.self.inside.rows.items in
    let ts = transfers_of folder rows in
    let few : length ts < 20 = subst (λ (s : Serving). length s.transfers < 20) (sym c.self.view_is) c.requires.few in
    let less : vec_len c.self.inside.rows < 20 = omega (arith, few, length-map rows (transfer_of folder), c.self.inside.rows.ok.0) in
    let most = at_most_one c.push.result (vec_len c.self.inside.rows) (vec_len c.push.new.self) c.push.ensures.len in
    let done = is_done c.push.result (vec_len c.self.inside.rows) (vec_capacity c.self.inside.rows) c.push.ensures.full (omega (arith, less, c.self.invariant.1)) in
    let fresh : find (is_for c.args.row.guest) ts ≡ None = subst (λ (s : Serving). find (is_for c.args.row.guest) s.transfers ≡ None) (sym c.self.view_is) c.requires.fresh in (
      omega (arith, most, less),
      omega (arith, c.push.ensures.capacity, c.self.invariant.1),
      apart_pushed folder rows c.push.new.self.items _
          (is_ok c.push.result) c.push.ensures.items done c.self.invariant.2 fresh,
    )
