-- Flows have time: those of a network after it learnt guests' hardware addresses.
use Rattle.std.proofs.Common.{◌≡◌, ℕ, Bool, true, false, is_some, List, Option, refl, sym, ap, ◌∙◌, subst, if◌then◌else◌}
use Rattle.net_octets.specs.declared.Ip4.{Ip4}
use Rattle.net_octets.specs.declared.Mac.{Mac}
use Rattle.arp_table.specs.Table.{mac_of as learnt_for}
use Rattle.flow_splice.specs.Sends.{learnt}
use Rattle.flow_splice.specs.Splice.{Splice, is_open}
use Rattle.flow_splice.specs.Wants.{HasTime}
use Rattle.tcp_flows.specs.Reading.{HaveLearnt}
use Rattle.tcp_flows.specs.Settled.{HaveTime}

-- who learnt an address has time as before
module _ (guests : List (Ip4 × Mac)) (p : Splice) where
  open_by : (b : Bool) → is_open (if b then p else learnt p (learnt_for p.face.guest.addr guests)) ≡ is_open p
  open_by true = refl
  open_by false = refl

  time_by : (b : Bool) (now : ℕ) → HasTime p now → HasTime (if b then p else learnt p (learnt_for p.face.guest.addr guests)) now
  time_by true now has = has
  time_by false now has = record { connects = has.connects; deserted = has.deserted }

pub learnt_time : (guests : List (Ip4 × Mac)) (old new : List (Option Splice)) → HaveLearnt guests old new → (now : ℕ) → HaveTime now old → HaveTime now new
learnt_time guests old new have now early k q is =
    let one = have.only k q is.here in
    let p = one.0 in
    subst (λ (x : Splice). HasTime x now) (sym one.2)
    (time_by guests p (is_some p.mac) now (early k p (record { here = one.1; open_yet = sym (open_by guests p (is_some p.mac)) ∙ ap is_open (sym one.2) ∙ is.open_yet })))
