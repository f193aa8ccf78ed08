use Rattle.tcp_connection.proofs.windows.+shift_within.Given as goal

abbrev pub decreases-shift_within : goal.decreases-shift_within
decreases-shift_within l = l.most
