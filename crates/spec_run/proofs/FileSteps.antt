-- The calls on files for which a packet asks may come one after another, and the trace keeps of files what they bring.
use Rattle.std.proofs.Common.{◌≡◌, ℕ, ◌+◌, ◌-◌, ◌%◌, ◌^◌, ◌==◌, ◌⊎◌, inl, inr, nat_le, Bool, true, false, List, [], ◌∷◌, ◌++◌, length, take, Option, Some, None, if◌then◌else◌, refl, sym}
use Rattle.std.specs.Prelude.{option_map}
use Rattle.std.specs.Option.{option_or}
use Rattle.std.proofs.Common.{◌∙◌, ap, subst, codes, find}
use Rattle.net_octets.specs.declared.Endpoint.{Endpoint}
use Rattle.world_face.specs.Journal.{Call, CallFileLen, CallFileRead, Entry, FileLen, FileRead, call_of, CallClose}
use Rattle.world_face.specs.declared.FileSize.{FileSize}
use Rattle.world_face.specs.declared.FileSize.TheVariants.{Length, Missing, Failed as SizeFailed}
use Rattle.world_face.specs.declared.Io.{Io}
use Rattle.world_face.specs.declared.Io.TheVariants.{Done, End, NotYet, Failed}
use Rattle.slirp_settings.specs.Addresses.{Config}
use Rattle.rules_udp.specs.declared.Reply.{Reply}
use Rattle.rules_udp.specs.declared.Reply.TheVariants.{Nothing, Datagram as ADatagram, Unreachable}
use Rattle.spec_flows.specs.Book.{book}
use Rattle.spec_flows.specs.SegmentVerdicts.{due_for_flows}
use Rattle.spec_trace.specs.Shape.{Working, due_in, phase}
use Rattle.spec_trace.specs.Sockets.{next_number}
use Rattle.rules_tftp.specs.Asking.{AreAskedFor, after_calls, by_answer, call_for, or_outcome}
use Rattle.rules_tftp.specs.Packets.{Packet, Asks, AsksToWrite, Acknowledges, GivesUp, Unheard, Request, Terms, is_name, request_in, says, terms_of}
use Rattle.rules_tftp.specs.Saying.{IsFromServer, said_by}
use Rattle.rules_tftp.specs.Transfers.{Files, Outcome, Quest, Said, SeeksLength, SeeksOctets, Settled as SeeksNothing, Sought, Transfer, acknowledged, is_for, length_came, measured, octets_came}
use Rattle.rules_tftp.specs.Transfers.{octets_of, place_of, requested, requested_file, seeks_block, taken_in, transfer, with_room, without}
use Rattle.spec_run.specs.Answers.{answer_of, answers_of, frames_of, identification, left, left_by_file, serving, told_of_files}
use Rattle.spec_run.specs.Asking.{step, step_of}
use Rattle.spec_run.specs.Datagrams.{due_for}
use Rattle.spec_run.specs.Errands.{errand_left}
use Rattle.spec_run.specs.Leasing.{Sending}
use Rattle.spec_run.specs.Laws.{Lawful, due, due_for_services, is_closing}
use Rattle.spec_run.specs.Names.{answered}
use Rattle.spec_run.proofs.Deeds.{FlowsAskNothing, measures, takes_octets}
use Rattle.spec_run.proofs.KeptFiles.{now_is}

-- ---- a guest is told nothing while something is sought

abbrev pub IsSilent : Outcome → Type 0
IsSilent o = (o.files.quest ≡ SeeksNothing) ⊎ (o.told ≡ None)

silent_if : (b : Bool) (one other : Outcome) → IsSilent one → IsSilent other → IsSilent (if b then one else other)
silent_if true one other is else_ = is
silent_if false one other is else_ = else_

silent_block : (now : ℕ) (t : Transfer) (others : List Transfer) → IsSilent (seeks_block now t others)
silent_block now t others = silent_if (octets_of t == 0) _ _ (inl refl) (inr refl)

silent_file : (mac : List ℕ) (guest : Endpoint) (r : Request) (others : List Transfer) (folder : Option (List ℕ)) → IsSilent (requested_file mac guest r others folder)
silent_file mac guest r others None = inl refl
silent_file mac guest r others (Some at) = silent_if (is_name r.name) _ _ (inr refl) (inl refl)

silent_request : (folder : Option (List ℕ)) (mac : List ℕ) (guest : Endpoint) (o : Option Request) (others : List Transfer) → IsSilent (requested folder mac guest o others)
silent_request folder mac guest None others = inl refl
silent_request folder mac guest (Some r) others = silent_if (says (codes "octet") r.mode) _ _ (silent_file mac guest r others folder) (inl refl)

silent_acknowledgement : (now number : ℕ) (o : Option Transfer) (ts : List Transfer) → IsSilent (acknowledged now number o ts)
silent_acknowledgement now number None ts = inl refl
silent_acknowledgement now number (Some t) ts = silent_if (number == t.block % 2 ^ 16) _ _
    (silent_if t.is_last _ _ (inl refl) (silent_block now (record t { block = t.block + 1 }) (without t.guest ts))) (inl refl)

pub silent_packet : (folder : Option (List ℕ)) (now : ℕ) (mac : List ℕ) (guest : Endpoint) (p : Packet) (ts : List Transfer) → IsSilent (taken_in folder now mac guest p ts)
silent_packet folder now mac guest (Asks texts) ts = silent_request folder mac guest (request_in texts) (without guest ts)
silent_packet folder now mac guest AsksToWrite ts = inl refl
silent_packet folder now mac guest (Acknowledges number) ts = silent_acknowledgement now number (find (is_for guest) ts) ts
silent_packet folder now mac guest GivesUp ts = inl refl
silent_packet folder now mac guest Unheard ts = inl refl

silent_measured : (now n : ℕ) (s : Sought) (o : Option Terms) (ts : List Transfer) → IsSilent (measured now n s o ts)
silent_measured now n s None ts = inl refl
silent_measured now n s (Some terms) ts = silent_if (length terms.answered == 0) _ _ (silent_block now (record (transfer n s terms) { block = 1 }) (with_room ts)) (inl refl)

silent_length : (now : ℕ) (answer : FileSize) (q : Quest) (ts : List Transfer) → IsSilent (length_came now answer q ts)
silent_length now answer SeeksNothing ts = inl refl
silent_length now answer (SeeksOctets t there) ts = inl refl
silent_length now (Length n) (SeeksLength s) ts = silent_measured now n s (terms_of n s.options) ts
silent_length now Missing (SeeksLength s) ts = inl refl
silent_length now SizeFailed (SeeksLength s) ts = inl refl

silent_octets : (now : ℕ) (answer : Io) (octets : List ℕ) (q : Quest) (ts : List Transfer) → IsSilent (octets_came now answer octets q ts)
silent_octets now answer octets SeeksNothing ts = inl refl
silent_octets now answer octets (SeeksLength s) ts = inl refl
silent_octets now (Done n) octets (SeeksOctets t there) ts = silent_if (nat_le (octets_of t) (length (there ++ octets))) _ _ (inl refl) (inr refl)
silent_octets now End octets (SeeksOctets t there) ts = inl refl
silent_octets now NotYet octets (SeeksOctets t there) ts = inl refl
silent_octets now Failed octets (SeeksOctets t there) ts = inl refl

-- ---- where a file may be asked for

-- in a turn, where nothing else is due
pub record MaySeek (config : Config) (past : List Entry) : Type 0 where
  pub working : phase config past ≡ Working
  pub settled : errand_left config past ≡ None
  pub unheard : answered config past ≡ None
  pub nothing : FlowsAskNothing config past
  pub open_yet : is_closing config past ≡ false

due_then : (config : Config) (past : List Entry) (call : Call) → MaySeek config past → call_for (serving config past).files.quest ≡ Some call → due config past ≡ Some call
due_then config past call m is =
    let flows = due_for_flows config (book config past) (next_number past) in
    let services = option_or (due_for_services config past) flows in
    ap (λ p. option_or (due_in p past) (option_or (due_for config (step config past) (next_number past)) services)) m.working
    ∙ ap (λ o. option_or (due_for config (step_of config past o) (next_number past)) services) m.settled
    ∙ ap (λ o. option_or (option_or (option_map CallClose o) (call_for (serving config past).files.quest)) flows) m.unheard
    ∙ ap (λ o. option_or o flows) is

-- ---- one call

-- what such a call makes of what is kept of files, and of what is left to be told
pub record IsFileCall (config : Config) (e : Entry) (past : List Entry) : Type 0 where
  pub may : MaySeek config past → MaySeek config (e ∷ past)
  pub comes : MaySeek config past → call_for (serving config past).files.quest ≡ Some (call_of e) → Lawful config past → Lawful config (e ∷ past)
  pub outcome : Outcome
  pub is : by_answer (serving config past).now e (serving config past).files ≡ Some outcome
  pub files : (serving config (e ∷ past)).files ≡ outcome.files
  pub silent : IsSilent outcome
  pub left : left config (e ∷ past) ≡ left_by_file config (identification past) outcome.told (left config past)
  pub again : (serving config (e ∷ past)).again ≡ (serving config past).again
  pub now : (serving config (e ∷ past)).now ≡ (serving config past).now
  pub ident : identification (e ∷ past) ≡ identification past

of_length : (config : Config) (name : List ℕ) (answer : FileSize) (past : List Entry) → IsFileCall config (FileLen name answer) past
of_length config name answer past = record {
  may = λ m. record { working = m.working; settled = m.settled; unheard = refl; nothing = record { due = refl; stay = m.nothing.stay }; open_yet = m.open_yet };
  comes = λ m is lawful. (measures config past name (due_then config past (CallFileLen name) m is) m.nothing m.open_yet, lawful);
  outcome = length_came (serving config past).now answer (serving config past).files.quest (serving config past).files.transfers;
  is = refl;
  files = refl;
  silent = silent_length (serving config past).now answer (serving config past).files.quest (serving config past).files.transfers;
  left = refl;
  again = refl;
  now = sym (now_is config past);
  ident = refl;
}

of_octets : (config : Config) (name : List ℕ) (place asked : ℕ) (answer : Io) (octets : List ℕ) (past : List Entry) → IsFileCall config (FileRead name place asked answer octets) past
of_octets config name place asked answer octets past = record {
  may = λ m. record { working = m.working; settled = m.settled; unheard = refl; nothing = record { due = refl; stay = m.nothing.stay }; open_yet = m.open_yet };
  comes = λ m is lawful. (takes_octets config past name place asked (due_then config past (CallFileRead name place asked) m is) m.nothing m.open_yet, lawful);
  outcome = octets_came (serving config past).now answer octets (serving config past).files.quest (serving config past).files.transfers;
  is = refl;
  files = refl;
  silent = silent_octets (serving config past).now answer octets (serving config past).files.quest (serving config past).files.transfers;
  left = refl;
  again = refl;
  now = sym (now_is config past);
  ident = refl;
}

is_length : (config : Config) (e : Entry) (past : List Entry) (name : List ℕ) → call_of e ≡ CallFileLen name → IsFileCall config e past
is_length config (FileLen n answer) past name is = of_length config n answer past
is_length config _ past name is = cc

is_read : (config : Config) (e : Entry) (past : List Entry) (name : List ℕ) (place asked : ℕ) → call_of e ≡ CallFileRead name place asked → IsFileCall config e past
is_read config (FileRead n p a answer octets) past name place asked is = of_octets config n p a answer octets past
is_read config _ past name place asked is = cc

file_call : (config : Config) (e : Entry) (past : List Entry) (q : Quest) → call_for q ≡ Some (call_of e) → IsFileCall config e past
file_call config e past SeeksNothing is = cc
file_call config e past (SeeksLength s) is = let call : call_of e ≡ CallFileLen s.file = cc in is_length config e past s.file call
file_call config e past (SeeksOctets t there) is =
    let call : call_of e ≡ CallFileRead t.file (place_of t + length there) (octets_of t - length there) = cc in
    is_read config e past t.file (place_of t + length there) (octets_of t - length there) call

-- ---- one call after another

-- The calls of a packet that came may come, and after them the trace keeps what they brought, and has left to be sent what is told then.
pub record AreFileCalls (config : Config) (past : List Entry) (o : Outcome) (made : List Entry) : Type 0 where
  pub lawful : Lawful config (made ++ past)
  pub may : MaySeek config (made ++ past)
  pub files : (serving config (made ++ past)).files ≡ (after_calls (serving config past).now made o).files
  pub silent : IsSilent (after_calls (serving config past).now made o)
  pub left : left config (made ++ past) ≡ frames_of config (identification past) (told_of_files config (after_calls (serving config past).now made o).told)
  pub again : (serving config (made ++ past)).again ≡ (serving config past).again
  pub now : (serving config (made ++ past)).now ≡ (serving config past).now
  pub ident : identification (made ++ past) ≡ identification past

-- where something is sought nothing is told
nothing_told : (o : Outcome) (call : Call) → IsSilent o → call_for o.files.quest ≡ Some call → o.told ≡ None
nothing_told o call (inr none) is = none
nothing_told o call (inl settled) is = let never : None ≡ Some call = sym (ap call_for settled) ∙ is in cc

left_told : (config : Config) (ident : ℕ) (o : Option Said) (frames : List (List ℕ)) → frames ≡ [] → left_by_file config ident o frames ≡ frames_of config ident (told_of_files config o)
left_told config ident None frames none = none
left_told config ident (Some said) frames none = refl

one_more : (config : Config) (past : List Entry) (o : Outcome) (e : Entry) (made : List Entry) → call_for (after_calls (serving config past).now made o).files.quest ≡ Some
    (call_of e) → AreFileCalls config past o made → AreFileCalls config past o (e ∷ made)
one_more config past o e made asked before =
    let here = made ++ past in
    let so_far = after_calls (serving config past).now made o in
    let due : call_for (serving config here).files.quest ≡ Some (call_of e) = ap (λ (f : Files). call_for f.quest) before.files ∙ asked in
    let call = file_call config e here (serving config here).files.quest due in
    let outcome : by_answer (serving config past).now e so_far.files ≡ Some call.outcome =
    ap (λ n. by_answer n e so_far.files) (sym before.now) ∙ ap (by_answer (serving config here).now e) (sym before.files) ∙ call.is in
    let comes : or_outcome (by_answer (serving config past).now e so_far.files) so_far ≡ call.outcome = ap (λ o. or_outcome o so_far) outcome in
    let none : left config here ≡ [] = before.left ∙ ap (λ o. frames_of config (identification past) (told_of_files config o)) (nothing_told so_far (call_of e) before.silent asked) in
    record {
      lawful = call.comes before.may due before.lawful;
      may = call.may before.may;
      files = call.files ∙ ap (λ (p : Outcome). p.files) (sym comes);
      silent = subst IsSilent (sym comes) call.silent;
      left = call.left ∙ left_told config (identification here) call.outcome.told (left config here) none ∙ ap (λ i. frames_of config i (told_of_files config call.outcome.told)) before.ident
          ∙ ap (λ (p : Outcome). frames_of config (identification past) (told_of_files config p.told)) (sym comes);
      again = call.again ∙ before.again;
      now = call.now ∙ before.now;
      ident = call.ident ∙ before.ident;
    }

pub are_file_calls : (config : Config) (past : List Entry) (o : Outcome) (made : List Entry) → Lawful config past → MaySeek config past → (serving config past).files ≡ o.files → IsSilent o
    → left config past ≡ frames_of config (identification past) (told_of_files config o.told) → AreAskedFor (serving config past).now o made → AreFileCalls config past o made
are_file_calls config past o [] lawful may files silent left asked = record { lawful = lawful; may = may; files = files; silent = silent; left = left; again = refl; now = refl; ident = refl }
are_file_calls config past o (e ∷ made) lawful may files silent left asked = one_more config past o e made asked.0 (are_file_calls config past o made lawful may files silent left asked.1)

-- ---- what a reply of the server owes

-- the datagram that a reply is, where it is one
abbrev pub put_by : Reply → List ℕ → List Sending
put_by (ADatagram count from to (Some mac)) octets = record { mac = mac.0; from = from; to = to; body = take count octets } ∷ []
put_by _ octets = []

pub told_as_put : (config : Config) (reply : Reply) (octets : List ℕ) → IsFromServer config.vhost reply → told_of_files config (said_by reply octets) ≡ answers_of (put_by reply octets)
told_as_put config Nothing octets is = refl
told_as_put config (ADatagram count from to None) octets is = refl
told_as_put config (ADatagram count from to (Some mac)) octets is =
    ap (λ (f : Endpoint). answer_of (record { mac = mac.0; from = f; to = to; body = take count octets }) ∷ []) (sym is.0)
told_as_put config (Unreachable code) octets is = refl
