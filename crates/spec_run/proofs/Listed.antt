-- Lists of questions: what holds of each stays so, and which is found by its number.
use Rattle.std.proofs.Common.{◌≡◌, ℕ, ◌==◌, ◌&&◌, ◌||◌, not, Bool, true, false, List, [], ◌∷◌, ◌++◌, find, Some, None, option_map, if◌then◌else◌, refl, sym, ◌∙◌, ap, subst, filter}
use Rattle.net_octets.specs.declared.Endpoint.{Endpoint}
use Rattle.rules_dns.specs.declared.Question.{Question}
use Rattle.rules_dns.specs.Questions.{is_of, moved_last, numbered, numbers, socket_of, without}
use Rattle.spec_trace.specs.Sockets.{is_among}
use Rattle.spec_run.proofs.Bools.{among_without, equal, or_assoc, or_false, or_swap, same}

-- of each of them this holds
abbrev pub AllQuestions : (Question → Type 0) → List Question → Type 0
AllQuestions P [] = Unit {0}
AllQuestions P (q ∷ list) = P q × AllQuestions P list

pub all_so : (P Q : Question → Type 0) (list : List Question) → ((q : Question) → P q → Q q) → AllQuestions P list → AllQuestions Q list
all_so P Q [] more all = tt
all_so P Q (q ∷ list) more all = (more q all.0, all_so P Q list more all.1)

pub all_last : (P : Question → Type 0) (list : List Question) (q : Question) → AllQuestions P list → P q → AllQuestions P (list ++ (q ∷ []))
all_last P [] q all one = (one, tt)
all_last P (x ∷ list) q all one = (all.0, all_last P list q all.1 one)

pub all_moved : (P : Question → Type 0) (change : Question → Question) (n : ℕ) (list : List Question) → ((q : Question) → P q → P (change q)) → AllQuestions P list → AllQuestions P
    (moved_last change n list)
all_moved P change n [] keeps all = tt
all_moved P change n (q ∷ list) keeps all = by (q.number == n) (all_moved P change n list keeps all.1)
  where
    by : (b : Bool) → AllQuestions P (moved_last change n list) → AllQuestions P (if b then list ++ (change q ∷ []) else q ∷ moved_last change n list)
    by true rest = all_last P list (change q) all.1 (keeps q all.0)
    by false rest = (all.0, rest)

-- those that are left have another number
pub all_without : (P : Question → Type 0) (n : ℕ) (list : List Question) → AllQuestions P list → AllQuestions (λ q. P q × ((q.number == n) ≡ false)) (without n list)
all_without P n [] all = tt
all_without P n (q ∷ list) all = by (q.number == n) refl (all_without P n list all.1)
  where
    by : (b : Bool) → (q.number == n) ≡ b → AllQuestions (λ q. P q × ((q.number == n) ≡ false)) (without n list) → AllQuestions (λ q. P q × ((q.number == n) ≡ false))
        (if not b then q ∷ without n list else without n list)
    by true this rest = rest
    by false other rest = ((all.0, other), rest)

pub all_left : (P : Question → Type 0) (n : ℕ) (list : List Question) → AllQuestions P list → AllQuestions P (without n list)
all_left P n list all = all_so (λ q. P q × ((q.number == n) ≡ false)) P (without n list) (λ q both. both.0) (all_without P n list all)

-- ---- one that is found

pub found : (P : Question → Type 0) (n : ℕ) (list : List Question) (q : Question) → AllQuestions P list → numbered n list ≡ Some q → P q × (q.number ≡ n)
found P n [] q all is = cc
found P n (x ∷ list) q all is = by (x.number == n) refl is (λ more. found P n list q all.1 more)
  where
    by : (b : Bool) → (x.number == n) ≡ b → (if b then Some x else numbered n list) ≡ Some q → (numbered n list ≡ Some q → P q × (q.number ≡ n)) → P q × (q.number ≡ n)
    by true this is more = let here : x ≡ q = cc in subst (λ y. P y × (y.number ≡ n)) here (all.0, equal x.number n this)
    by false other is more = more is

pub among_found : (n : ℕ) (list : List Question) → is_among n (numbers list) ≡ true → (q : Question) × (numbered n list ≡ Some q)
among_found n [] among = absurd cc
among_found n (x ∷ list) among = by (x.number == n) (n == x.number) refl refl among (λ more. among_found n list more)
  where
    by : (b t : Bool) → (x.number == n) ≡ b → (n == x.number) ≡ t → (t || is_among n (numbers list)) ≡ true → (is_among n (numbers list) ≡ true → (q : Question) × (numbered n list ≡ Some q))
        → (q : Question) × ((if b then Some x else numbered n list) ≡ Some q)
    by true t this turned among more = (x, refl)
    by false true this turned among more = let here = equal n x.number turned in absurd (let never : true ≡ false = sym (same n) ∙ ap (λ m. m == n) here ∙ this in cc)
    by false false this turned among more = more among

-- the one of a port with an identifier
pub socket_found : (P : Question → Type 0) (guest : Endpoint) (ident n : ℕ) (list : List Question) → AllQuestions P list → socket_of guest ident list ≡ Some n
    → (q : Question) × P q × (is_of guest ident q ≡ true) × (q.number ≡ n)
socket_found P guest ident n [] all is = absurd cc
socket_found P guest ident n (x ∷ list) all is = by (is_of guest ident x) refl is (λ more. socket_found P guest ident n list all.1 more)
  where
    by : (b : Bool) → is_of guest ident x ≡ b → option_map (λ (q : Question). q.number) (if b then Some x else find (is_of guest ident) list) ≡ Some n
        → (socket_of guest ident list ≡ Some n → (q : Question) × P q × (is_of guest ident q ≡ true) × (q.number ≡ n)) → (q : Question) × P q × (is_of guest ident q ≡ true) × (q.number ≡ n)
    by true this is more = (x, all.0, this, cc)
    by false other is more = more is

-- where there was none the last one is
pub socket_last : (guest : Endpoint) (ident : ℕ) (list : List Question) (q : Question) → socket_of guest ident list ≡ None → is_of guest ident q ≡ true → socket_of guest ident
    (list ++ (q ∷ [])) ≡ Some q.number
socket_last guest ident [] q none this = ap (λ (b : Bool). option_map (λ (x : Question). x.number) (if b then Some q else None)) this
socket_last guest ident (x ∷ list) q none this = by (is_of guest ident x) none (λ more. socket_last guest ident list q more this)
  where
    by : (b : Bool) → option_map (λ (y : Question). y.number) (if b then Some x else find (is_of guest ident) list) ≡ None →
        (socket_of guest ident list ≡ None → socket_of guest ident (list ++ (q ∷ [])) ≡ Some q.number)
        → option_map (λ (y : Question). y.number) (if b then Some x else find (is_of guest ident) (list ++ (q ∷ []))) ≡ Some q.number
    by true none more = cc
    by false none more = more none

-- ---- numbers

pub numbers_last : (n : ℕ) (list : List Question) (q : Question) → is_among n (numbers (list ++ (q ∷ []))) ≡ (is_among n (numbers list) || (n == q.number))
numbers_last n [] q = or_false (n == q.number)
numbers_last n (x ∷ list) q = ap (λ b. (n == x.number) || b) (numbers_last n list q) ∙ or_assoc (n == x.number) (is_among n (numbers list)) (n == q.number)

pub numbers_moved : (change : Question → Question) → ((q : Question) → (change q).number ≡ q.number) → (n m : ℕ) (list : List Question) → is_among n
    (numbers (moved_last change m list)) ≡ is_among n (numbers list)
numbers_moved change keeps n m [] = refl
numbers_moved change keeps n m (x ∷ list) = by (x.number == m) (numbers_moved change keeps n m list)
  where
    by : (b : Bool) → is_among n (numbers (moved_last change m list)) ≡ is_among n (numbers list) → is_among n
        (numbers (if b then list ++ (change x ∷ []) else x ∷ moved_last change m list)) ≡ is_among n (numbers (x ∷ list))
    by true rest = numbers_last n list (change x) ∙ ap (λ k. is_among n (numbers list) || (n == k)) (keeps x) ∙ or_swap (is_among n (numbers list)) (n == x.number)
    by false rest = ap (λ b. (n == x.number) || b) rest

pub numbers_without : (m : ℕ) (list : List Question) → numbers (without m list) ≡ filter (λ s. not (s == m)) (numbers list)
numbers_without m [] = refl
numbers_without m (x ∷ list) = by (x.number == m) (numbers_without m list)
  where
    by : (b : Bool) → numbers (without m list) ≡ filter (λ s. not (s == m)) (numbers list)
        → numbers (if not b then x ∷ without m list else without m list) ≡ (if not b then x.number ∷ filter (λ s. not (s == m)) (numbers list) else filter (λ s. not (s == m)) (numbers list))
    by true rest = rest
    by false rest = ap (λ ns. x.number ∷ ns) rest

-- one less
pub asked_without : (n m : ℕ) (list : List Question) → is_among n (numbers (without m list)) ≡ (not (n == m) && is_among n (numbers list))
asked_without n m list = ap (is_among n) (numbers_without m list) ∙ among_without n m (numbers list)
