-- What stands before the wrong calls is lawful, and does what it must: each of them is the first that is wrong.
use Rattle.std.proofs.Common.{◌≡◌, true, ◌++◌, refl, ◌&&◌}
use Rattle.world_face.specs.Frames.{encoding, missing, is_too_long, encoded_length}
use Rattle.tlv_table.specs.Reading.{read_on}
use Rattle.slirp_settings.specs.Settings.{usual}
use Rattle.spec_flows.proofs.Writing.{run}
use Rattle.spec_flows.proofs.Openings.{opened, reset_came, ten_came}
use Rattle.spec_run.specs.Check.{is_lawful}
use Rattle.spec_duties.specs.Check.{is_dutiful}
use Rattle.spec_duties.proofs.Wrong.{four_sent, one_unsent, ten_acknowledged, three_left, tiny, tiny_opened}

ten_octets_came : (is_dutiful tiny (run (tiny_opened ++ ten_came)) && is_lawful tiny (run (tiny_opened ++ ten_came))) ≡ true
unfolding missing encoding is_too_long encoded_length read_on
ten_octets_came = refl

ten_octets_acknowledged : (is_dutiful usual ten_acknowledged && is_lawful usual ten_acknowledged) ≡ true
unfolding missing encoding is_too_long encoded_length read_on
ten_octets_acknowledged = refl

three_octets_left : (is_dutiful usual three_left && is_lawful usual three_left) ≡ true
unfolding missing encoding is_too_long encoded_length read_on
three_octets_left = refl

four_octets_sent : (is_dutiful tiny four_sent && is_lawful tiny four_sent) ≡ true
unfolding missing encoding is_too_long encoded_length read_on
four_octets_sent = refl

a_reset_came : (is_dutiful usual (run (opened ++ reset_came)) && is_lawful usual (run (opened ++ reset_came))) ≡ true
unfolding missing encoding is_too_long encoded_length read_on
a_reset_came = refl

one_octet_unsent : (is_dutiful usual one_unsent && is_lawful usual one_unsent) ≡ true
unfolding missing encoding is_too_long encoded_length read_on
one_octet_unsent = refl
