-- What an offer changes, and offers one after another.
use Rattle.std.proofs.Common.{refl, ◌≡◌, ℕ, ◌+◌, ◌<◌, ◌^◌, ◌%◌, ◌&&◌, not, [], ◌∷◌, ◌++◌, List, Bool, true, false, Option, Some, append_assoc, arith, ap, subst, sym, ◌∙◌, inl, inr, ◌⊎◌}
use Rattle.net_octets.specs.declared.Mac.{Mac}
use Rattle.sock_buffers.specs.Downward.{Downward}
use Rattle.sock_buffers.specs.Upward.{Upward}
use Rattle.world_face.specs.Journal.{AreAllowed, Close, Entry}
use Rattle.world_face.specs.Tells.{Makes, Telling}
use Rattle.stream_netdev.specs.Keeps.{Keeps}
use Rattle.stream_netdev.specs.State.{LinkState}
use Rattle.stream_netdev.specs.declared.Offered.{Offered}
use Rattle.stream_netdev.specs.declared.Offered.TheVariants.{Taken, Blocked, Failed}
use Rattle.tcp_connection.specs.Connection.{Connection, HasBuffers}
use Rattle.tcp_connection.specs.Owing.{after_gone, change_gone, owed_of}
use Rattle.tcp_connection.specs.declared.Owed.{Owed}
use Rattle.spec_flow.specs.Event.{Story}
use Rattle.sim_connection.specs.Sending.{is_rst}
use Rattle.flow_splice.specs.Entries.{AreEvents, ident_after}
use Rattle.flow_splice.specs.Follows.{Follows}
use Rattle.flow_splice.specs.Hosts.{IsAsOld, Sees, ends}
use Rattle.flow_splice.specs.Left.{left}
use Rattle.flow_splice.specs.Sends.{GoesOut, Marks, SendsOn, went_out}
use Rattle.flow_splice.specs.Stays.{Stays}
use Rattle.flow_splice.specs.Splice.{Face, Splice, closed, is_in_use, is_open}
use Rattle.flow_splice.proofs.Events.{events_then, ident_both}
use Rattle.flow_splice.proofs.Lessening.{less}
use Rattle.flow_splice.proofs.Opened.{follows_later}

-- what is left once the flow knows what became of an offer
pub record Marked (old new : Splice) (made : List Entry) : Type 0 where
  pub stays : Stays old new
  pub closes : (made ≡ []) ⊎ ((n : ℕ) × (made ≡ Close n ∷ []))
  pub shut : is_open old ≡ false → is_open new ≡ false

same_of : (f x new : Splice) (made : List Entry) → IsAsOld f x → x.up ≡ f.up → x.down ≡ f.down → new ≡ x → (made ≡ []) ⊎ ((n : ℕ) × (made ≡ Close n ∷ [])) →
    (is_open f ≡ false → is_open x ≡ false) → Marked f new made
same_of f x new made as_old up down is closes shut = record {
  stays = record { same = subst (λ (y : Splice). IsAsOld f y) (sym is) as_old; up = ap (λ (y : Splice). y.up) is ∙ up; down = ap (λ (y : Splice). y.down) is ∙ down };
  closes = closes;
  shut = λ is_shut. ap is_open is ∙ shut is_shut;
}

never_both : (b : Bool) → (b && false) ≡ false
never_both true = refl
never_both false = refl

as_it_is : (f : Splice) → IsAsOld f f
as_it_is f = record { face = refl; mac = refl; since = refl; accepted = refl; asked = refl; ask_at = refl; up_size = refl; down_size = refl; mru = refl }

out_stays : (b : Bool) (what : Owed) (f new : Splice) (now : ℕ) (made : List Entry) → GoesOut b what f new now made → Marked f new made
out_stays true what f new now made is =
    same_of f (record (went_out f what now) { place = new.place }) new made
    (record { face = refl; mac = refl; since = refl; accepted = refl; asked = refl; ask_at = refl; up_size = refl; down_size = refl; mru = refl }) refl refl
    (is.1 ∙ ap (λ p. record (went_out f what now) { place = p }) (sym (ap (λ (y : Splice). y.place) is.1))) (inl is.0)
    (λ is_shut. ap (λ p. is_in_use p && not f.shut) (ap (λ (y : Splice). y.place) is.1))
out_stays false what f new now made is = by (ends (change_gone what f.conn f.up now)) is
  where
    by : (e : Bool) → Sees e (went_out f what now) new now made → Marked f new made
    by true sees = same_of f (closed (went_out f what now) now) new made
        (record { face = refl; mac = refl; since = refl; accepted = refl; asked = refl; ask_at = refl; up_size = refl; down_size = refl; mru = refl }) refl refl sees.1 (inr (f.face.number, sees.0))
        (λ is_shut. never_both (is_in_use (closed (went_out f what now) now).place))
    by false sees = same_of f (went_out f what now) new made (record {
      face = refl;
      mac = refl;
      since = refl;
      accepted = refl;
      asked = refl;
      ask_at = refl;
      up_size = refl;
      down_size = refl;
      mru = refl;
    }) refl refl sees.1 (inl sees.0) (λ is_shut. is_shut)

pub marks_stay : (o : Offered) (what : Owed) (f new : Splice) (now : ℕ) (made : List Entry) → Marks o what f new now made → Marked f new made
marks_stay Taken what f new now made marks = out_stays (is_rst what) what f new now made marks
marks_stay Blocked what f new now made marks = same_of f f new made (as_it_is f) refl refl marks.1 (inl marks.0) (λ is_shut. is_shut)
marks_stay Failed what f new now made marks = same_of f f new made (as_it_is f) refl refl marks.1 (inl marks.0) (λ is_shut. is_shut)

-- less is left where it went out
left_of : (x new : Splice) → new.conn ≡ x.conn → new.up ≡ x.up → new.down ≡ x.down → left new ≡ left x
left_of x new conn up down =
    ap (λ (c : Connection). left (record new { conn = c })) conn ∙ ap (λ (u : Upward). left (record new { conn = x.conn; up = u })) up ∙ ap
    (λ (d : Downward). left (record new { conn = x.conn; up = x.up; down = d })) down

pub marks_less : (what : Owed) (f new : Splice) (now : ℕ) (made : List Entry) → HasBuffers f.conn f.up f.down → owed_of f.conn f.up f.down ≡ Some what →
    Marks Taken what f new now made → left new < left f
marks_less what f new now made buffers owed marks =
    let fewer = less f.conn f.up f.down now buffers what owed in
    let stays = (marks_stay Taken what f new now made marks).stays in
    let same = left_of (went_out f what now) new (conn_is (is_rst what) marks) stays.up stays.down in
    omega (arith, fewer, same)
  where
    conn_is : (b : Bool) → GoesOut b what f new now made → new.conn ≡ after_gone what f.conn f.up now
    conn_is true is = ap (λ (y : Splice). y.conn) is.1
    conn_is false is = by (ends (change_gone what f.conn f.up now)) is
      where
        by : (e : Bool) → Sees e (went_out f what now) new now made → new.conn ≡ after_gone what f.conn f.up now
        by true sees = ap (λ (y : Splice). y.conn) sees.1
        by false sees = ap (λ (y : Splice). y.conn) sees.1

-- the link goes on where a socket is closed
close_keeps : (link : LinkState) (past : List Entry) (n : ℕ) → Keeps link past → Keeps link (Close n ∷ past)
close_keeps link past n k = record { framed = (tt, k.framed); partly = k.partly; rest = k.rest; blocked = k.blocked }

pub closes_keep : (link : LinkState) (past made : List Entry) → (made ≡ []) ⊎ ((n : ℕ) × (made ≡ Close n ∷ [])) → Keeps link past → Keeps link (made ++ past)
closes_keep link past made (inl is) k = subst (λ (es : List Entry). Keeps link (es ++ past)) (sym is) k
closes_keep link past made (inr is) k = subst (λ (es : List Entry). Keeps link (es ++ past)) (sym is.1) (close_keeps link past is.0 k)

-- with what the World may answer
pub makes_allowed : (a b : Telling) (P : List Entry → Type 0) → Makes a b P → Makes a b (λ made. P made × AreAllowed made)
makes_allowed a b P m = record { made = m.made; same = m.same; allowed = m.allowed; told = m.told; counted = m.counted; holds = (m.holds, m.allowed) }

-- ---- one after another

pub sends_none : (f : Splice) (link : LinkState) (ident now : ℕ) → ident < 2 ^ 16 → SendsOn f f link link ident ident now []
sends_none f link ident now small = (
  (λ s past before ended known on h. (
    record { beats = []; are = refl; follows = follows_later s f past before now on h },
    (let same : ident ≡ (ident + 0) % 2 ^ 16 = omega
        (arith, small) in same),
  )),
  λ past k. k,
)

pub sends_then : (old mid new : Splice) (one two three : LinkState) (first second third now : ℕ) (before made : List Entry) → new.face ≡ mid.face → new.mac ≡ mid.mac
    → SendsOn old mid one two first second now before → SendsOn mid new two three second third now made → SendsOn old new one three first third now (made ++ before)
sends_then old mid new one two three first second third now before made same_face same_mac a b = (
  (λ s past at ended known on h.
      let x = a.0 s past at ended known on h in
      let y = b.0 s (x.0.beats ++ past) now ended known (omega arith) x.0.follows in (
        record {
          beats = y.0.beats ++ x.0.beats;
          are = events_then s new.face new.mac false ended known first now past x.0.beats before made y.0.beats
              (subst (λ (face : Face). AreEvents s face new.mac false ended known first now past before x.0.beats) (sym same_face)
              (subst (λ (mac : Option Mac). AreEvents s mid.face mac false ended known first now past before x.0.beats) (sym same_mac) x.0.are))
              (subst (λ (n : ℕ). AreEvents s new.face new.mac false ended known n now (x.0.beats ++ past) made y.0.beats) x.1 y.0.are);
          follows = subst (λ (q : Story). Follows s new q now) (sym (append_assoc y.0.beats x.0.beats past)) y.0.follows;
        },
        y.1 ∙ ap (λ (n : ℕ). ident_after n y.0.beats) x.1 ∙ ident_both first y.0.beats x.0.beats,
      )),
  λ past k. subst (λ (es : List Entry). Keeps three es) (sym (append_assoc made before past)) (b.1 (before ++ past) (a.1 past k)),
)
