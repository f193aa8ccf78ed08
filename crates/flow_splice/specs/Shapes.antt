-- Which calls one call of a flow makes, and in what order. The newest stands first.
use Rattle.std.specs.Prelude.{◌≡◌, ℕ, Bool, true, false, ◌&&◌, ◌||◌, List, [], ◌∷◌, ◌++◌}
use Rattle.world_face.specs.Journal.{Entry, LinkWrite, TcpWrite, TcpEnd, Close}
use Rattle.world_face.specs.declared.Io.{Io}
use Rattle.world_face.specs.declared.Io.TheVariants.{Done, End, NotYet, Failed as IoFailed}
use Rattle.flow_splice.specs.Hosts.{is_for_reading, is_for_writing, shuts}
use Rattle.stream_netdev.specs.declared.Pumped.{Pumped}
use Rattle.stream_netdev.specs.declared.Pumped.TheVariants.{Clear, Blocked, Failed}

-- a socket is closed, or nothing is called
abbrev pub is_at_most_a_close : List Entry → Bool
is_at_most_a_close [] = true
is_at_most_a_close (Close socket ∷ []) = true
is_at_most_a_close _ = false

-- ---- a report of the host

abbrev pub gives : Entry → Bool
gives (TcpWrite socket octets answer) = true
gives _ = false

abbrev pub ends : Entry → Bool
ends (TcpEnd socket answer) = true
ends _ = false

-- For a report for writing: nothing; or one call for writing, and behind octets the end, and then a close or none.
abbrev pub is_writing : List Entry → Bool
is_writing [] = true
is_writing (a ∷ []) = is_for_writing a
is_writing (b ∷ a ∷ []) = (shuts b && is_for_writing a) || (ends b && gives a)
is_writing (c ∷ b ∷ a ∷ []) = shuts c && ends b && gives a
is_writing _ = false

-- the guest's end, and then a close or none; or nothing
abbrev pub is_ending : List Entry → Bool
is_ending [] = true
is_ending (a ∷ []) = ends a
is_ending (b ∷ a ∷ []) = shuts b && ends a
is_ending _ = false

-- For a report for reading: nothing; or one read, and then a close or none.
abbrev pub is_reading : List Entry → Bool
is_reading [] = true
is_reading (a ∷ []) = is_for_reading a
is_reading (b ∷ a ∷ []) = shuts b && is_for_reading a
is_reading _ = false

-- Calls for writing come first, and only where that was reported; then those for reading.
pub record IsHostWork (read write : Bool) (made : List Entry) : Type 0 where
  pub reading : List Entry
  pub writing : List Entry
  pub is : made ≡ reading ++ writing
  pub writes : is_writing writing ≡ true
  pub reads : is_reading reading ≡ true
  pub unless_write : write ≡ false → writing ≡ []
  pub unless_read : read ≡ false → reading ≡ []

-- ---- a pump

-- a write on the link that didn't fail, or a close
abbrev pub wrote : Io → Bool
wrote (Done n) = true
wrote End = true
wrote NotYet = true
wrote IoFailed = false

abbrev pub is_sending : Entry → Bool
is_sending (LinkWrite octets answer) = wrote answer
is_sending (Close socket) = true
is_sending _ = false

abbrev pub is_write : Entry → Bool
is_write (LinkWrite octets answer) = wrote answer
is_write _ = false

-- each is one of these, and the first of them (the oldest) is a write
abbrev pub are_sending : List Entry → Bool
are_sending [] = true
are_sending (e ∷ []) = is_write e
are_sending (e ∷ d ∷ made) = is_sending e && are_sending (d ∷ made)

-- a pump only writes on the link and closes; it failed exactly where its last write did
abbrev pub IsPumpWork : Pumped → List Entry → Type 0
IsPumpWork Clear made = are_sending made ≡ true
IsPumpWork Blocked made = are_sending made ≡ true
IsPumpWork Failed made = (octets : List ℕ) × (before : List Entry) × (made ≡ LinkWrite octets IoFailed ∷ before) × (are_sending before ≡ true)
