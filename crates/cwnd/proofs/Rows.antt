-- The first window by the greatest segment (RFC 5681, 3.1).
use Rattle.std.proofs.Common.{◌≡◌, true, false, refl}
use Rattle.cwnd.specs.Congestion.{initial_window}

of_the_least : initial_window 1 false ≡ 4
of_the_least = refl

of_the_last_of_four : initial_window 1095 false ≡ 4380
of_the_last_of_four = refl

of_the_first_of_three : initial_window 1096 false ≡ 3288
of_the_first_of_three = refl

of_the_last_of_three : initial_window 2190 false ≡ 6570
of_the_last_of_three = refl

of_the_first_of_two : initial_window 2191 false ≡ 4382
of_the_first_of_two = refl

once_the_syn_went_again : initial_window 2191 true ≡ 2191
once_the_syn_went_again = refl
