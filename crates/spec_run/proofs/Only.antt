-- A flow's frame is that of the segment which is read of it.
use Rattle.std.proofs.Common.{◌≡◌, ℕ, ◌||◌, not, Bool, true, false, List, [], ◌∷◌, Some, is_some, refl, sym, ◌∙◌, ap, subst}
use Rattle.world_face.specs.Journal.{Entry}
use Rattle.world_face.specs.Frames.{goes_out}
use Rattle.slirp_settings.specs.Addresses.{Config}
use Rattle.ipv4_head.specs.Ip.{Ip}
use Rattle.tcp_segment.specs.Tcp.{tcp_octets}
use Rattle.spec_flows.specs.Segments.{OnTuple, asked_in, segment_in}
use Rattle.spec_run.specs.Answers.{again_frames, identification, is_first, is_flows, left, serving}
use Rattle.spec_run.specs.Laws.{Lawful}
use Rattle.spec_run.specs.Said.{Carries, IsOfFlow}
use Rattle.spec_run.specs.Sending.{is_beside, may_ask, sends_again, sends_segment, tcp_for}
use Rattle.spec_run.proofs.Beside.{by_request, by_segment, carries_only, no_request}
use Rattle.spec_run.proofs.Bools.{first_of}
use Rattle.spec_run.proofs.Owing.{Begins, Next, Beside, out_by}

module _ (config : Config) (past : List Entry) (frame : List ℕ) (ip : Ip) (on : OnTuple) (c : Carries frame ip) (carried : segment_in frame ≡ Some on) where
  no_file : sends_again config past frame ≡ true → ⊥
  no_file is =
      let no : not (is_flows frame) ≡ true = first_of (not (is_flows frame)) (is_first frame (again_frames config (identification past) (serving config past))) is in
      let yes : not (is_flows frame) ≡ false = ap (λ o. not (is_some o || is_some (asked_in frame))) carried in
      let never : false ≡ true = sym yes ∙ no in
      cc

  by_reason : left config past ≡ [] → is_beside config past frame ≡ true → IsOfFlow config past frame
  by_reason nothing is = by (sends_segment config past frame (segment_in frame)) (may_ask config past frame (asked_in frame)) refl refl is
    where
      by : (b m : Bool) → sends_segment config past frame (segment_in frame) ≡ b → may_ask config past frame (asked_in frame) ≡ m →
          (b || m || sends_again config past frame) ≡ true → IsOfFlow config past frame
      by true m sends asks may = by_segment config past frame (segment_in frame) nothing refl sends
      by false true none asks may = absurd (no_request config past frame ip (by_request config past frame (asked_in frame) nothing refl asks) c)
      by false false none asks may = absurd (no_file may)

  by_frame : left config past ≡ [] → Begins config past frame → IsOfFlow config past frame
  by_frame nothing (Next first) = let never : is_first frame [] ≡ true = subst (λ l. is_first frame l ≡ true) nothing first in cc
  by_frame nothing (Beside none is) = by_reason none is

  of_flow : IsOfFlow config past frame → ip.body ≡ tcp_octets ip.from ip.to (tcp_for on)
  of_flow f = subst (λ o. ip.body ≡ tcp_octets ip.from ip.to (tcp_for o)) (one f.on on (sym f.carried ∙ carried)) (carries_only config past frame ip f c)
    where
      one : (a b : OnTuple) → Some a ≡ Some b → a ≡ b
      one a b is = cc

-- a segment that goes out, where nothing is left of an answer, is one of a flow
pub is_of_flow : (config : Config) (e : Entry) (past : List Entry) (frame : List ℕ) (ip : Ip) (on : OnTuple) → Lawful config (e ∷ past) → goes_out e past ≡ Some frame →
    left config past ≡ [] → Carries frame ip → segment_in frame ≡ Some on
    → IsOfFlow config past frame
is_of_flow config e past frame ip on lawful out nothing c carried = by_frame config past frame ip on c carried nothing (out_by config e past frame lawful.0 out)

pub writes_only : (config : Config) (e : Entry) (past : List Entry) (frame : List ℕ) (ip : Ip) (on : OnTuple) → Lawful config (e ∷ past) → goes_out e past ≡ Some frame →
    left config past ≡ [] → Carries frame ip → segment_in frame ≡ Some on
    → ip.body ≡ tcp_octets ip.from ip.to (tcp_for on)
writes_only config e past frame ip on lawful out nothing c carried = of_flow config past frame ip on c carried (is_of_flow config e past frame ip on lawful out nothing c carried)
