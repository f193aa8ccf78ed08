use Rattle.std.proofs.Common.{◌≡◌, ℕ, List, [], ◌∷◌, ◌∙◌, ap}
use Rattle.tcp_segment.specs.Tcp.{tcp_of}
use Rattle.spec_flows.specs.Segments.{segment_of}
use Rattle.spec_run.specs.Answers.{frames_of, reset_for}
use Rattle.slirp_core.specs.Segments.{coming_of}
use Rattle.slirp_core.specs.State.{SlirpState}
use Rattle.slirp_core.proofs.Taking.{reset_frames, reset_small}
use Rattle.slirp_core.proofs.Viewed.{state_of}
use Rattle.slirp_core.proofs.network.Slirp.turn_away.Goals as goal

pub put_segment-requires-clause-size : goal.put_segment-requires-clause-size
put_segment-requires-clause-size c = reset_small c.args.came.now.ends (segment_of (tcp_of c.args.came.now.segment)) (tcp_of c.reset_for-reset.result) c.reset_for-reset.ensures

pub returns : goal.returns
returns c =
    let old = c.args.self.now in
    let i = c.self.inside in
    let on = (coming_of c.args.came.now).on in
    let pending : c.put_segment.new.self ≡ frames_of old.config old.sent (reset_for on ∷ []) =
    reset_frames old.config old.sent on (tcp_of c.reset_for-reset.result) c.course-course.result c.put_segment.new.self c.reset_for-reset.ensures c.course-course.ensures.course
    c.put_segment.ensures in
    ap (λ (p : List (List ℕ)). record (state_of i) { pending = p }) pending
    ∙ ap (λ (s : SlirpState). record s { pending = frames_of old.config old.sent (reset_for on ∷ []) }) c.self.view_is
