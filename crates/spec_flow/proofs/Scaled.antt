-- Windows are scaled where both SYNs have the option: where the guest's has it, ours has it too.
use Rattle.std.proofs.Common.{refl, ◌≡◌, ℕ, [], ◌∷◌, Bool, true, false, if◌then◌else◌, ap, sym, ◌∙◌, IsTrue, not, ◌&&◌, ◌||◌, Option, None, Some, is_some}
use Rattle.std.specs.Option.{option_or, option_map}
use Rattle.spec_flow.specs.Settings.{Settings}
use Rattle.spec_flow.specs.Event.{Segment, Connects, Arrives, Departs, At, Story, IsStory}
use Rattle.spec_flow.specs.Flow.{their_syn, their_number, greets, syn_is_out}
use Rattle.spec_flow.specs.Windows.{their_scale, is_scaled, least_shift}
use Rattle.spec_flow.specs.Said.{we_scale}
use Rattle.spec_flow.proofs.Computing.{both}
use Rattle.spec_flow.specs.Lawful.{May, Send, IsLawful}

some_scale : (on syn rst ack scaled : Bool) (o : Option ℕ) (k : ℕ) → on ≡ true → o ≡ (if on && syn && not rst && (not ack || scaled) then Some k else None)
    → (ack ≡ true → scaled ≡ true) → IsTrue (syn && not rst) → IsTrue (syn && not rst && is_some o)
some_scale on true false true true o k offers is scaled syn = let here : o ≡ Some k = is ∙ rw offers refl in rw here refl
some_scale on true false false s o k offers is scaled syn = let here : o ≡ Some k = is ∙ rw offers refl in rw here refl
some_scale on true false true false o k offers is scaled syn = absurd (let not_it = scaled refl in cc)
some_scale on true true a s o k offers is scaled syn = absurd cc
some_scale on false r a s o k offers is scaled syn = absurd cc

goes : (a b c d : Bool) → (IsTrue a → IsTrue b) → (IsTrue c → IsTrue d) → IsTrue (a || c) → IsTrue (b || d)
goes true b c d f g is = or_left b d (f refl)
  where
    or_left : (a b : Bool) → IsTrue a → IsTrue (a || b)
    or_left true b x = refl
    or_left false b x = absurd cc
goes false b c d f g is = or_right b d (g is)
  where
    or_right : (a b : Bool) → IsTrue b → IsTrue (a || b)
    or_right true b y = refl
    or_right false b y = y

plain_of : (syn rst : Bool) → IsTrue (syn && not rst) → IsTrue (not rst)
plain_of true r is = is
plain_of false r is = absurd cc

module _ (s : Settings) (m : ℕ) (past : Story) (seg : Segment) (offers : s.scales ≡ true) (may : May s past m (Send seg)) where
  -- a SYN that goes out now has the option, where windows are scaled, or the guest's SYN isn't known
  now_scales : (IsTrue seg.ack → is_scaled s past ≡ true) → IsTrue (seg.syn && not seg.rst) → IsTrue (seg.syn && not seg.rst && is_some seg.scale)
  now_scales scaled syn = some_scale s.scales seg.syn seg.rst seg.ack (is_scaled s past) seg.scale (least_shift s.ring) offers may.sends_its_options.1 scaled syn

  unknown_scales_now : their_syn past ≡ None → IsTrue (seg.syn && not seg.rst) → IsTrue (seg.syn && not seg.rst && is_some seg.scale)
  unknown_scales_now none syn =
      let none_known : is_some (their_number past) ≡ false = ap (λ (o : Option Segment). is_some (option_map (λ (g : Segment). g.number) o)) none in
      let bare = (may.acknowledges_what_came (plain_of seg.syn seg.rst syn)).0 ∙ none_known in
      now_scales (λ ack. let not_it = sym ack ∙ bare in absurd cc) syn

not_known : (o p : Option Segment) → option_or o p ≡ None → o ≡ None
not_known None p is = refl
not_known (Some seg) p is = absurd cc

unknown_scales : (s : Settings) (story : Story) → s.scales ≡ true → IsLawful s story → their_syn story ≡ None → IsTrue (syn_is_out story) → IsTrue (we_scale story)
unknown_scales s [] offers l none out = absurd cc
unknown_scales s (At m (Connects ours syn) ∷ past) offers l none out = absurd cc
unknown_scales s (At m (Arrives seg) ∷ past) offers l none out = unknown_scales s past offers l.1 (not_known (their_syn past) _ none) out
unknown_scales s (At m (Departs seg) ∷ past) offers l none out =
    goes (seg.syn && not seg.rst) (seg.syn && not seg.rst && is_some seg.scale) (syn_is_out past) (we_scale past)
    (unknown_scales_now s m past seg offers l.0 none) (unknown_scales s past offers l.1 none) out
unknown_scales s (At m _ ∷ past) offers l none out = unknown_scales s past offers l.1 none out

abbrev pub scale_of : Option Segment → Bool
scale_of o = is_some (elim o [ None ↦ None | Some syn ↦ syn.scale ])

-- a flow is opened once
abbrev pub OpensOnce : Story → Type 0
OpensOnce [] = Unit {0}
OpensOnce (At m (Connects ours syn) ∷ past) = past ≡ []
OpensOnce (_ ∷ past) = OpensOnce past

pub opens_once : (story : Story) → IsStory story → OpensOnce story
opens_once [] is = absurd is
opens_once (At m (Connects ours syn) ∷ []) is = refl
opens_once (At m _ ∷ []) is = tt
opens_once (At m (Connects ours syn) ∷ b ∷ past) is = absurd (is.0 tt)
opens_once (At m _ ∷ b ∷ past) is = opens_once (b ∷ past) is.2

not_out : (past : Story) → past ≡ [] → IsTrue (syn_is_out past) → ⊥
not_out [] is out = absurd cc
not_out (b ∷ past) is out = absurd cc

both_by : (s : Settings) (story : Story) → s.scales ≡ true → OpensOnce story → IsLawful s story → IsTrue (is_some (their_scale story)) → IsTrue (syn_is_out story) → IsTrue (we_scale story)
both_by s [] offers once l scaled out = absurd cc
both_by s (At m (Connects ours syn) ∷ past) offers once l scaled out = absurd (not_out past once out)
both_by s (At m (Arrives seg) ∷ past) offers once l scaled out =
    by (their_syn past) (if greets past seg then Some seg else None) scaled (λ is. both_by s past offers once l.1 is out) (λ none. unknown_scales s past offers l.1 none out)
  where
    by : {C : Type 0} (o p : Option Segment) → IsTrue (scale_of (option_or o p)) → (IsTrue (scale_of o) → C) → (o ≡ None → C) → C
    by None p is f g = g refl
    by (Some syn) p is f g = f is
both_by s (At m (Departs seg) ∷ past) offers once l scaled out =
    goes (seg.syn && not seg.rst) (seg.syn && not seg.rst && is_some seg.scale) (syn_is_out past) (we_scale past)
    (now_scales s m past seg offers l.0 (λ ack. rw offers scaled)) (both_by s past offers once l.1 scaled) out
both_by s (At m _ ∷ past) offers once l scaled out = both_by s past offers once l.1 scaled out

-- Where windows are scaled and our SYN is out, both sides' SYNs have the option.
pub both_scale : (s : Settings) (story : Story) → OpensOnce story → IsLawful s story → IsTrue (is_scaled s story) → IsTrue (syn_is_out story) → IsTrue (we_scale story)
both_scale s story once l scaled out = let p = both s.scales (is_some (their_scale story)) scaled in both_by s story p.0 once l p.1 out
