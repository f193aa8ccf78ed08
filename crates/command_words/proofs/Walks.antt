-- The walk over words reads exactly the lines that they are.
use Rattle.std.proofs.Common.{◌≡◌, Bool, true, false, cond, List, [], ◌∷◌, ◌++◌, codes, Option, Some, None, is_some, refl, sym, ◌∙◌, ap, subst}
use Rattle.std.proofs.Common.{append_assoc, append-nil}
use Rattle.slirp_settings.specs.Ranges.{none_twice}
use Rattle.command_words.specs.declared.options.Verb.{Verb}
use Rattle.command_words.specs.Options.{Word, Given, Piece, Apart, Joined, Flag, Plain, Line, ArePieces, IsLine, pieces_words, words_behind, line_words, options_of, plain_words}
use Rattle.command_words.specs.Options.{alone_behind, words_alone, same_name, single, takes_value}
use Rattle.command_words.specs.Walking.{Walk, step, next, walk_on, finished, fresh, walked}
use Rattle.command_words.proofs.Back.{same_walk, stepped, Stepped, Ends, Alone, Joins, Waits, Flags, value_back}
use Rattle.command_words.proofs.Single.{fresh_single, once_again}
use Rattle.command_words.proofs.Steps.{at, waiting, behind_end, given, flag_step, waits_step, apart_step, plain_step, joined_step, put_fresh}

-- what the walk comes to
abbrev pub arrived : Verb → List Given → List Word → Bool → Walk
arrived verb options alone ended = record { verb = verb; options = options; alone = alone; waits = None; ended = ended }

-- from a line to its walk
go : (f : Walk → Option Walk) (o : Option Walk) (s : Walk) (r : Option Walk) → o ≡ Some s → f s ≡ r → next f o ≡ r
go f o s r e h = ap (next f) e ∙ h

module _ (verb : Verb) (o : List Given) where
  end_kept : (words : List Word) (a : List Word) → walk_on words (behind_end verb o a) ≡ Some (behind_end verb o (a ++ words))
  end_kept [] a = ap (λ (x : List Word). Some (behind_end verb o x)) (sym (append-nil a))
  end_kept (word ∷ words) a =
      let moved : (a ++ word ∷ []) ++ words ≡ a ++ word ∷ words = append_assoc a (word ∷ []) words in
      end_kept words (a ++ word ∷ []) ∙ ap (λ (x : List Word). Some (behind_end verb o x)) moved

pub line_kept : (verb : Verb) (pieces : List Piece) (behind : Option (List Word)) (o : List Given) (a : List Word) → ArePieces verb pieces
    → none_twice same_name (single (o ++ options_of pieces)) ≡ true
    → walk_on (pieces_words pieces ++ words_behind behind) (at verb o a) ≡ Some (arrived verb (o ++ options_of pieces) (a ++ (plain_words pieces ++ alone_behind behind)) (is_some behind))
line_kept verb [] None o a p once = ap (λ (x : List Word). Some (arrived verb o x false)) (sym (append-nil a)) ∙ ap (λ (x : List Given). Some (arrived verb x (a ++ []) false)) (sym (append-nil o))
line_kept verb [] (Some words) o a p once = end_kept verb o words a ∙ ap (λ (x : List Given). Some (arrived verb x (a ++ words) true)) (sym (append-nil o))
line_kept verb (Plain word ∷ pieces) behind o a p once =
    let left = plain_words pieces ++ alone_behind behind in
    let moved : (a ++ word ∷ []) ++ left ≡ a ++ word ∷ left = append_assoc a (word ∷ []) left in
    go (walk_on (pieces_words pieces ++ words_behind behind)) (step (at verb o a) word) (at verb o (a ++ word ∷ [])) _
    (plain_step verb o a word p.0)
    (line_kept verb pieces behind o (a ++ word ∷ []) p.1 once ∙ ap (λ (x : List Word). Some (arrived verb (o ++ options_of pieces) x (is_some behind))) moved)
line_kept verb (Flag name ∷ pieces) behind o a p once =
    let g = given name [] in
    let all = a ++ (plain_words pieces ++ alone_behind behind) in
    let moved : (o ++ g ∷ []) ++ options_of pieces ≡ o ++ g ∷ options_of pieces = append_assoc o (g ∷ []) (options_of pieces) in
    go (walk_on (pieces_words pieces ++ words_behind behind)) (step (at verb o a) name) (at verb (o ++ g ∷ []) a) _
    (flag_step verb o a name p.0 ∙ put_fresh verb o a name [] (fresh_single o g (options_of pieces) once))
    (line_kept verb pieces behind (o ++ g ∷ []) a p.1 (rw moved once) ∙ ap (λ (x : List Given). Some (arrived verb x all (is_some behind))) moved)
line_kept verb (Joined name value ∷ pieces) behind o a p once =
    let g = given name value in
    let all = a ++ (plain_words pieces ++ alone_behind behind) in
    let moved : (o ++ g ∷ []) ++ options_of pieces ≡ o ++ g ∷ options_of pieces = append_assoc o (g ∷ []) (options_of pieces) in
    go (walk_on (pieces_words pieces ++ words_behind behind)) (step (at verb o a) (name ++ codes "=" ++ value)) (at verb (o ++ g ∷ []) a) _
    (ap (step (at verb o a)) (append_assoc name (61 ∷ []) value) ∙ joined_step verb o a name value p.0.0 p.0.1 ∙ put_fresh verb o a name value (fresh_single o g (options_of pieces) once))
    (line_kept verb pieces behind (o ++ g ∷ []) a p.1 (rw moved once) ∙ ap (λ (x : List Given). Some (arrived verb x all (is_some behind))) moved)
line_kept verb (Apart name value ∷ pieces) behind o a p once =
    let g = given name value in
    let all = a ++ (plain_words pieces ++ alone_behind behind) in
    let moved : (o ++ g ∷ []) ++ options_of pieces ≡ o ++ g ∷ options_of pieces = append_assoc o (g ∷ []) (options_of pieces) in
    go (walk_on (value ∷ pieces_words pieces ++ words_behind behind)) (step (at verb o a) name) (waiting verb o a name) _
    (waits_step verb o a name p.0.0 (fresh_single o g (options_of pieces) once))
    (go (walk_on (pieces_words pieces ++ words_behind behind)) (step (waiting verb o a name) value) (at verb (o ++ g ∷ []) a) _
    (apart_step verb o a name value p.0.1 p.0.2 ∙ put_fresh verb o a name value (fresh_single o g (options_of pieces) once))
    (line_kept verb pieces behind (o ++ g ∷ []) a p.1 (rw moved once) ∙ ap (λ (x : List Given). Some (arrived verb x all (is_some behind))) moved))

pub line_walked : (verb : Verb) (line : Line) → IsLine verb line → walked verb (line_words line) ≡ Some (arrived verb (options_of line.pieces) (words_alone line) (is_some line.behind))
line_walked verb line is =
    ap (next finished) (line_kept verb line.pieces line.behind [] [] is.0 is.1)

-- and back
pub next_some : (f : Walk → Option Walk) (o : Option Walk) (w : Walk) → next f o ≡ Some w → (s : Walk) × (o ≡ Some s) × (f s ≡ Some w)
next_some f None w h = absurd (cc h)
next_some f (Some s) w h = (s, refl, h)

pub record Split (verb : Verb) (words : List Word) (o : List Given) (a : List Word) (w : Walk) : Type 0 where
  pub pieces : List Piece
  pub behind : Option (List Word)
  pub encoded : words ≡ pieces_words pieces ++ words_behind behind
  pub proper : ArePieces verb pieces
  pub options : w.options ≡ o ++ options_of pieces
  pub once : none_twice same_name (single w.options) ≡ true
  pub alone : w.alone ≡ a ++ (plain_words pieces ++ alone_behind behind)

record EndSplit (o : List Given) (words a : List Word) (w : Walk) : Type 0 where
  alone : w.alone ≡ a ++ words
  options : w.options ≡ o

end_split : (verb : Verb) (o : List Given) (words : List Word) (a : List Word) (w : Walk) → walk_on words (behind_end verb o a) ≡ Some w → EndSplit o words a w
end_split verb o [] a w is =
    let e = same_walk (behind_end verb o a) w is in
    record {
      alone = sym (ap (λ (x : Walk). x.alone) e) ∙ sym (append-nil a);
      options = sym (ap (λ (x : Walk). x.options) e);
    }
end_split verb o (word ∷ words) a w is =
    let r = end_split verb o words (a ++ word ∷ []) w is in
    record { alone = r.alone ∙ append_assoc a (word ∷ []) words; options = r.options }

abbrev Splits : Verb → List Word → Walk → Type 0
Splits verb words w = (o : List Given) (a : List Word) → none_twice same_name (single o) ≡ true → walk_on words (at verb o a) ≡ Some w → Split verb words o a w

abbrev SplitsBehind : Verb → List Word → Walk → Type 0
SplitsBehind verb [] w = Unit {0}
SplitsBehind verb (value ∷ words) w = Splits verb words w

module _ (verb : Verb) (w : Walk) (done : w.waits ≡ None) where
  -- behind the name of an option
  with_value : (name : Word) (words : List Word) (o : List Given) (a : List Word) → SplitsBehind verb words w → none_twice same_name (single o) ≡ true → takes_value verb name ≡ Some true →
      walk_on words (waiting verb o a name) ≡ Some w → Split verb (name ∷ words) o a w
  with_value name [] o a later once takes is =
      let e = same_walk (waiting verb o a name) w is in
      let waits : ◌≡◌ {A = Option Word} (Some name) None = ap (λ (x : Walk). x.waits) e ∙ done in
      absurd (cc waits)
  with_value name (value ∷ words) o a later once takes is =
      let n = next_some (walk_on words) (step (waiting verb o a name) value) w is in
      let v = value_back verb o a name value n.0 n.1 in
      let g = given name value in
      let r = later (o ++ g ∷ []) a (once_again o g once v.free) (subst (λ (x : Walk). walk_on words x ≡ Some w) v.after n.2) in
      record {
        pieces = Apart name value ∷ r.pieces;
        behind = r.behind;
        encoded = ap (λ (t : List Word). name ∷ value ∷ t) r.encoded;
        proper = ((takes, v.some, v.plain), r.proper);
        options = r.options ∙ append_assoc o (g ∷ []) (options_of r.pieces);
        once = r.once;
        alone = r.alone;
      }

  one : (word : Word) (words : List Word) → Splits verb words w → SplitsBehind verb words w → (o : List Given) (a : List Word) → none_twice same_name (single o) ≡ true → (s : Walk) →
      Stepped verb o a word s → walk_on words s ≡ Some w → Split verb (word ∷ words) o a w
  one word words rest later o a once s (Ends is after) on =
      let e = end_split verb o words a w (subst (λ (x : Walk). walk_on words x ≡ Some w) after on) in
      record {
        pieces = [];
        behind = Some words;
        encoded = ap (λ (t : Word). t ∷ words) is;
        proper = tt;
        options = e.options ∙ sym (append-nil o);
        once = subst (λ (x : List Given). none_twice same_name (single x) ≡ true) (sym e.options) once;
        alone = e.alone;
      }
  one word words rest later o a once s (Alone plain after) on =
      let r = rest o (a ++ word ∷ []) once (subst (λ (x : Walk). walk_on words x ≡ Some w) after on) in
      record {
        pieces = Plain word ∷ r.pieces;
        behind = r.behind;
        encoded = ap (λ (t : List Word). word ∷ t) r.encoded;
        proper = (plain, r.proper);
        options = r.options;
        once = r.once;
        alone = r.alone ∙ append_assoc a (word ∷ []) (plain_words r.pieces ++ alone_behind r.behind);
      }
  one word words rest later o a once s (Joins name value is takes some free after) on =
      let g = given name value in
      let r = rest (o ++ g ∷ []) a (once_again o g once free) (subst (λ (x : Walk). walk_on words x ≡ Some w) after on) in
      record {
        pieces = Joined name value ∷ r.pieces;
        behind = r.behind;
        encoded = ap (λ (t : Word). t ∷ words) (is ∙ sym (append_assoc name (61 ∷ []) value)) ∙ ap (λ (t : List Word). (name ++ codes "=" ++ value) ∷ t) r.encoded;
        proper = ((takes, some), r.proper);
        options = r.options ∙ append_assoc o (g ∷ []) (options_of r.pieces);
        once = r.once;
        alone = r.alone;
      }
  one word words rest later o a once s (Waits takes free after) on = with_value word words o a later once takes (subst (λ (x : Walk). walk_on words x ≡ Some w) after on)
  one word words rest later o a once s (Flags takes free after) on =
      let g = given word [] in
      let r = rest (o ++ g ∷ []) a (once_again o g once free) (subst (λ (x : Walk). walk_on words x ≡ Some w) after on) in
      record {
        pieces = Flag word ∷ r.pieces;
        behind = r.behind;
        encoded = ap (λ (t : List Word). word ∷ t) r.encoded;
        proper = (takes, r.proper);
        options = r.options ∙ append_assoc o (g ∷ []) (options_of r.pieces);
        once = r.once;
        alone = r.alone;
      }

  next_one : (word : Word) (words : List Word) → Splits verb words w → SplitsBehind verb words w → Splits verb (word ∷ words) w
  next_one word words rest later o a once is =
      let n = next_some (walk_on words) (step (at verb o a) word) w is in
      one word words rest later o a once n.0 (stepped verb o a word n.0 n.1) n.2

  split : (words : List Word) → Splits verb words w
  split [] o a once is =
      let e = same_walk (at verb o a) w is in
      record {
        pieces = [];
        behind = None;
        encoded = refl;
        proper = tt;
        options = sym (ap (λ (x : Walk). x.options) e) ∙ sym (append-nil o);
        once = subst (λ (x : Walk). none_twice same_name (single x.options) ≡ true) e once;
        alone = sym (ap (λ (x : Walk). x.alone) e) ∙ sym (append-nil a);
      }
  split (word ∷ []) o a once is = next_one word [] (split []) tt o a once is
  split (word ∷ (value ∷ words)) o a once is = next_one word (value ∷ words) (split (value ∷ words)) (split words) o a once is

-- the line that was read
pub record IsRead (verb : Verb) (words : List Word) (w : Walk) : Type 0 where
  pub line : Line
  pub encoded : words ≡ line_words line
  pub proper : IsLine verb line
  pub options : w.options ≡ options_of line.pieces
  pub alone : w.alone ≡ words_alone line

pub ended : (s w : Walk) → finished s ≡ Some w → (s ≡ w) × (w.waits ≡ None)
ended s w is = by_case s.waits refl is
  where
    by_case : (t : Option Word) → s.waits ≡ t → (cond (is_some t) None (Some s)) ≡ Some w → (s ≡ w) × (w.waits ≡ None)
    by_case None e h = let same = same_walk s w h in (same, sym (ap (λ (x : Walk). x.waits) same) ∙ e)
    by_case (Some t) e h = absurd (cc h)

pub walk_read : (verb : Verb) (words : List Word) (w : Walk) → walked verb words ≡ Some w → IsRead verb words w
walk_read verb words w is =
    let n = next_some finished (walk_on words (fresh verb)) w is in
    let e = ended n.0 w n.2 in
    let r = split verb w e.1 words [] [] refl (n.1 ∙ ap (λ (x : Walk). Some x) e.0) in
    record {
      line = record { pieces = r.pieces; behind = r.behind };
      encoded = r.encoded;
      proper = (r.proper, subst (λ (x : List Given). none_twice same_name (single x) ≡ true) r.options r.once);
      options = r.options;
      alone = r.alone;
    }
