-- The identification of the datagrams that go out.
use Rattle.std.specs.Prelude.{ℕ, ◌+◌, ◌%◌, ◌^◌, List, [], ◌∷◌}
use Rattle.spec_run.specs.Answers.{datagrams_in}
use Rattle.stream_netdev.specs.declared.Offered.{Offered}
use Rattle.stream_netdev.specs.declared.Offered.TheVariants.{Taken, Blocked, Failed}

-- the identification after a frame was offered
abbrev pub sent_with : List (List ℕ) → ℕ → ℕ
sent_with [] sent = sent
sent_with (frame ∷ frames) sent = (datagrams_in frame + sent) % 2 ^ 16

abbrev pub sent_after : Offered → List (List ℕ) → ℕ → ℕ
sent_after Taken pending sent = sent_with pending sent
sent_after Blocked pending sent = sent
sent_after Failed pending sent = sent
