-- The options that are known, as the code keeps them.
use Rattle.std.specs.Prelude.{◌≡◌, ℕ, ◌+◌, Bool, List, length, bytes_eq, codes, Option, Some, None, option_map, if◌then◌else◌}
use Rattle.std.specs.List.{list_any}
use Rattle.rules_tftp.specs.Packets.{Terms, answers, number_in, says, with_size, with_timeout}
use Rattle.tftp_server.specs.declared.options.Known.{Known}
use Rattle.tftp_server.specs.declared.options.Known.TheVariants.{BlockSize, Timeout, FileSize}
use Rattle.tftp_server.specs.declared.options.Answer.{Answer}

abbrev pub name_of : Known → List ℕ
name_of BlockSize = codes "blksize"
name_of Timeout = codes "timeout"
name_of FileSize = codes "tsize"

abbrev pub known_by : List ℕ → Option Known
known_by name =
    if says (codes "blksize") name then Some BlockSize
    else (if says (codes "timeout") name then Some Timeout
    else (if says (codes "tsize") name then Some FileSize else None))

abbrev pub answered_pair : Answer → List ℕ × ℕ
answered_pair a = (name_of a.option, a.number)

abbrev pub is_among : Known → List Answer → Bool
is_among option answered = list_any (λ a. bytes_eq (name_of a.option) (name_of option)) answered

-- one for each option that isn't answered
abbrev pub free : Known → List Answer → ℕ
free option answered = if is_among option answered then 0 else 1

-- each of the three is answered once at most
abbrev pub AreOnce : List Answer → Type 0
AreOnce answered = length answered + free BlockSize answered + free Timeout answered + free FileSize answered ≡ 3

-- a known option that isn't answered yet
abbrev pub with_known : ℕ → Known → List ℕ → Terms → Option Terms
with_known file_length BlockSize value terms = option_map (with_size terms) (number_in 8 65464 value)
with_known file_length Timeout value terms = option_map (with_timeout terms) (number_in 1 255 value)
with_known file_length FileSize value terms = option_map (λ n. answers (codes "tsize") file_length terms) (number_in 0 0 value)
