-- What the flows of the slots wait for, and the wants that stand for them, by rising number of the socket.
use Rattle.std.specs.Prelude.{ℕ, ◌<◌, Bool, true, false, ◌||◌, List, [], ◌∷◌, ◌++◌, nat_lt, if◌then◌else◌}
use Rattle.poll_list.specs.declared.Want.{Want}
use Rattle.poll_list.specs.declared.Who.{Who}
use Rattle.poll_list.specs.declared.Who.TheVariants.{Link, Listener, Udp, Tcp}
use Rattle.rules_flow.specs.Choices.{same_ways}
use Rattle.rules_flow.specs.declared.Waits.{Waits}

-- what each slot's flow waits for, and the wants of the sockets for which something is waited
pub record Waited : Type 0 where
  pub each : List Waits
  pub wants : List Want

-- the number of a socket of TCP
abbrev pub number_at : Who → ℕ
number_at Link = 0
number_at (Listener n) = 0
number_at (Udp n) = 0
number_at (Tcp n) = n

abbrev pub number_in : Want → ℕ
number_in w = number_at w.of

-- each has a number above this one
abbrev pub AreOver : ℕ → List Want → Type 0
AreOver n [] = Unit {0}
AreOver n (w ∷ wants) = (n < number_in w) × AreOver n wants

-- their numbers rise
abbrev pub AreOrdered : List Want → Type 0
AreOrdered [] = Unit {0}
AreOrdered (w ∷ wants) = AreOver (number_in w) wants × AreOrdered wants

-- something is waited for on a socket
abbrev pub is_any : Waits → Bool
is_any w = w.read || w.write

-- the want on a socket, if something is waited for
abbrev pub listed : ℕ → Waits → List Want
listed n w = if is_any w then record { of = Tcp n; read = w.read; write = w.write } ∷ [] else []

-- Of wants by rising number: these stand for a number, in place of what stood for it. The first is below it, above it, or stands for it.
abbrev pub placed : (is_below is_above : Bool) → (these later : List Want) → Want → List Want → List Want
placed true is_above these later w wants = w ∷ later
placed false true these later w wants = these ++ w ∷ wants
placed false false these later w wants = these ++ wants

abbrev pub with_wants : ℕ → (these : List Want) → List Want → List Want
with_wants n these [] = these
with_wants n these (w ∷ wants) = placed (nat_lt (number_in w) n) (nat_lt n (number_in w)) these (with_wants n these wants) w wants

-- the wants once this is waited for on the socket of a number, where that was
abbrev pub wants_after : (was : Waits) → ℕ → (is : Waits) → List Want → List Want
wants_after was n is wants = if same_ways was is then wants else with_wants n (listed n is) wants
