-- The ports at which a guest reaches the servers of the network, and that of a client of DHCP.
use Rattle.std.specs.Prelude.{ℕ}

-- names (RFC 1035, 4.2)
abbrev pub names_port : ℕ
names_port = 53

-- leases, and their clients (RFC 2131, 4.1)
abbrev pub leases_port : ℕ
leases_port = 67

abbrev pub client_port : ℕ
client_port = 68

-- files (RFC 1350, 4)
abbrev pub files_port : ℕ
files_port = 69
