-- The identifications of what goes out, and how it is counted.
use Rattle.std.proofs.Common.{inl, inr, ◌≡◌, ℕ, zero, suc, ◌+◌, ◌-◌, ◌*◌, ◌%◌, ◌^◌, ◌<◌, ◌≤◌, List, ◌∷◌, length, drop, Some, sym, ◌∙◌, ap, subst, arith}
use Rattle.world_face.specs.Journal.{Entry}
use Rattle.world_face.specs.Frames.{goes_out}
use Rattle.slirp_settings.specs.Addresses.{Config}
use Rattle.arp_table.specs.Arp.{Arp}
use Rattle.ipv4_head.specs.Cuts.{cut_at, units_in}
use Rattle.ipv4_head.specs.Ip.{Ip}
use Rattle.ipv4_head.proofs.Cutting.{place_some}
use Rattle.spec_run.specs.Answers.{frames_of, told_of_files, Answer, ArpAnswer, IpAnswer, datagrams_in, datagrams_out, frames_for, identification, left, uncut, with_datagrams}
use Rattle.spec_run.specs.Laws.{Lawful}
use Rattle.spec_run.specs.Said.{GoesAgain, AnswersLast, Carries, identification_with}
use Rattle.spec_run.proofs.Framing.{frames_one, IsPart, arp_frame, first_counts, later_counts, part_of_frames, place_fits}
use Rattle.spec_run.proofs.Beside.{beside, no_request, sends_whole}
use Rattle.spec_run.proofs.Owing.{begins_with, Begins, Next, Beside, first_answers, next_left, out_by, out_six}
use Rattle.spec_run.proofs.Reading.{SixSaid, file_answer, six_again, ReadsBack, SixAnswer, no_arp, reads_part}

pub ident_fits : (k : ℕ) (past : List Entry) → identification_with k past < 2 ^ 16
ident_fits zero past = omega arith
ident_fits (suc k) past = omega arith

-- what a frame that carries a datagram of IPv4 has for its identification, and how it is counted
pub record Numbered (past : List Entry) (frame : List ℕ) (ip : Ip) : Type 0 where
  pub first : ip.place ≡ 0 → (ip.ident ≡ identification past) × (datagrams_in frame ≡ 1)
  pub later : 0 < ip.place → (ip.ident ≡ (datagrams_out past - 1) % 2 ^ 16) × (datagrams_in frame ≡ 0)

pub carries_no_arp : (config : Config) (ident k : ℕ) (to : List ℕ) (arp : Arp) (frame : List ℕ) (rest : List (List ℕ)) (ip : Ip) → SixAnswer (ArpAnswer to arp) → drop k
    (frames_for config ident (ArpAnswer to arp)) ≡ frame ∷ rest → Carries frame ip → ⊥
carries_no_arp config ident k to arp frame rest ip six is c = no_arp to arp ip six.0 six.1 (subst (λ f. Carries f ip) (arp_frame config ident to arp frame rest k is).1 c)

-- the part that a frame carries, as it is read
pub reads_cut : (config : Config) (ident : ℕ) (to : List ℕ) (proto from guest : ℕ) (body frame : List ℕ) (k : ℕ) (ip : Ip) → 28 ≤ config.mtu → ident < 2 ^ 16 → length to ≡ 6 →
    IsPart config ident to proto from guest body frame k → Carries frame ip
    → ReadsBack ident (cut_at config.mtu (uncut body) k).place proto (cut_at config.mtu (uncut body) k).more ip
reads_cut config ident to proto from guest body frame k ip fits small six p c =
    reads_part config ident to proto from guest (cut_at config.mtu (uncut body) k) ip small (place_fits config.mtu (length body) k fits p.short p.below) six (subst (λ f. Carries f ip) p.is c)

by_answer : (config : Config) (past : List Entry) (a : Answer) (k : ℕ) (frame : List ℕ) (rest : List (List ℕ)) (ip : Ip) → 28 ≤ config.mtu → SixAnswer a → drop k
    (frames_for config (identification_with k past) a) ≡ frame ∷ rest → Carries frame ip → Numbered past frame ip
by_answer config past (ArpAnswer to arp) k frame rest ip fits six is c = absurd (carries_no_arp config (identification_with k past) k to arp frame rest ip six is c)
by_answer config past (IpAnswer to proto from guest body) zero frame rest ip fits six is c =
    let p = part_of_frames config (identification past) to proto from guest body frame rest 0 is in
    let r = reads_cut config (identification past) to proto from guest body frame 0 ip fits (ident_fits 0 past) six p c in
    let place : ip.place ≡ 0 = r.place ∙ omega arith in
    record {
      first = λ at. (r.ident, first_counts config (identification past) to proto from guest body frame fits six p);
      later = λ some. absurd (omega (arith, some, place));
    }
by_answer config past (IpAnswer to proto from guest body) (suc k) frame rest ip fits six is c =
    let p = part_of_frames config (identification_with (suc k) past) to proto from guest body frame rest (suc k) is in
    let r = reads_cut config (identification_with (suc k) past) to proto from guest body frame (suc k) ip fits (ident_fits (suc k) past) six p c in
    let place : ip.place ≡ suc k * units_in config.mtu = r.place in
    let some = place_some config.mtu (suc k) fits (omega arith) in
    record {
      first = λ at. absurd (omega (arith, at, place, some));
      later = λ behind. (r.ident, later_counts config (identification_with (suc k) past) to proto from guest body frame k fits six p);
    }

numbered : (config : Config) (past : List Entry) (frame : List ℕ) (ip : Ip) → 28 ≤ config.mtu → AnswersLast config past frame → Carries frame ip → Numbered past frame ip
numbered config past frame ip fits a c = by_answer config past a.answer a.out frame a.rest ip fits (out_six config past a.answer a.owed) a.is c

pub out_numbered : (config : Config) (e : Entry) (past : List Entry) (frame : List ℕ) (ip : Ip) → 28 ≤ config.mtu → Lawful config (e ∷ past) → goes_out e past ≡ Some frame →
    Carries frame ip → Numbered past frame ip
out_numbered config e past frame ip fits lawful out c = by_frame (out_by config e past frame lawful.0 out)
  where
    -- the first frame of a packet that goes again
    by_again : GoesAgain config past frame → Numbered past frame ip
    by_again g =
        let b = begins_with frame (frames_of config (identification past) (told_of_files config (Some g.said))) g.first in
        by_answer config past (file_answer config g.said) 0 frame b.0 ip fits (subst SixSaid g.may (six_again config past))
        (sym (frames_one config (identification past) (file_answer config g.said)) ∙ b.1) c

    by_frame : Begins config past frame → Numbered past frame ip
    by_frame (Next first) = numbered config past frame ip fits (first_answers config past frame fits lawful.1 first) c
    by_frame (Beside nothing is) = elim (beside config past frame nothing is) [
      | inl f ↦ (let whole = sends_whole config past frame ip f c in
          record {
            first = λ at. (whole.ident, whole.begins);
            later = λ behind. absurd (let front = whole.front in omega (arith, behind, front));
          })
      | inr other ↦ elim other [
        | inl a ↦ absurd (no_request config past frame ip a c)
        | inr g ↦ by_again g
      ]
    ]

pub left_numbered : (config : Config) (past : List Entry) (frame : List ℕ) (rest : List (List ℕ)) (ip : Ip) → 28 ≤ config.mtu → Lawful config past → left config past ≡ frame
    ∷ rest → Carries frame ip → Numbered past frame ip
left_numbered config past frame rest ip fits lawful is c = numbered config past frame ip fits (next_left config past frame rest fits lawful is) c

counted_by : (e : Entry) (past : List Entry) (frame : List ℕ) (n : ℕ) → goes_out e past ≡ Some frame → datagrams_in frame ≡ n → datagrams_out (e ∷ past) ≡ n + datagrams_out past
counted_by e past frame n out is = ap (λ o. with_datagrams o (datagrams_out past)) out ∙ ap (λ n. n + datagrams_out past) is

pub out_counted : (config : Config) (e : Entry) (past : List Entry) (frame : List ℕ) (ip : Ip) → 28 ≤ config.mtu → Lawful config (e ∷ past) → goes_out e past ≡ Some frame →
    Carries frame ip → ip.place ≡ 0 → datagrams_out (e ∷ past) ≡ datagrams_out past + 1
out_counted config e past frame ip fits lawful out c at = counted_by e past frame 1 out ((out_numbered config e past frame ip fits lawful out c).first at).1 ∙ omega arith

pub out_uncounted : (config : Config) (e : Entry) (past : List Entry) (frame : List ℕ) (ip : Ip) → 28 ≤ config.mtu → Lawful config (e ∷ past) → goes_out e past ≡ Some frame →
    Carries frame ip → 0 < ip.place → datagrams_out (e ∷ past) ≡ datagrams_out past
out_uncounted config e past frame ip fits lawful out c behind = counted_by e past frame 0 out ((out_numbered config e past frame ip fits lawful out c).later behind).1 ∙ omega arith
