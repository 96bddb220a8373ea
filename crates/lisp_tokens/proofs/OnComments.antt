-- Comments that nest.
use Rattle.std.proofs.Common.{◌≡◌, ◌∙◌, ℕ, ◌+◌, ◌-◌, ◌<◌, ◌≤◌, suc, zero, List, [], ◌∷◌, length, get_or, drop, true, false, cond, Bool, ◌&&◌, refl, sym, ap, subst, arith, add-one}
use Rattle.std.proofs.lemmas.Bool.{false≢true, eqb-true}
use Rattle.std.proofs.lemmas.List.{drop_more, drop_all, drop-drop}
use Rattle.lisp_tokens.specs.Characters.{begins_with}
use Rattle.lisp_tokens.specs.Gaps.{Closes, Unclosed, mark, nested, other, opens_comment, closes_comment}

-- ---- marks at an offset

pub opens_comment-at : (bytes : List ℕ) (at : ℕ) → begins_with 35 (drop at bytes) ≡ true → begins_with 124 (drop (at + 1) bytes) ≡ opens_comment (drop at bytes)
opens_comment-at bytes at is = rw (is, drop-drop 1 at bytes) refl

pub closes_comment-at : (bytes : List ℕ) (at : ℕ) → begins_with 124 (drop at bytes) ≡ true → begins_with 35 (drop (at + 1) bytes) ≡ closes_comment (drop at bytes)
closes_comment-at bytes at is = rw (is, drop-drop 1 at bytes) refl

pub ruleset at_marks = (opens_comment-at, closes_comment-at)

and_left : (a b : Bool) → (a && b) ≡ true → a ≡ true
and_left true b is = refl
and_left false b is = is

and_right : (a b : Bool) → (a && b) ≡ true → b ≡ true
and_right true b is = is
and_right false b is = absurd (false≢true is)

-- the byte that is said to stand at the front
pub first-is : (c : ℕ) (text : List ℕ) → begins_with c text ≡ true → text ≡ c ∷ drop 1 text
first-is c [] is = absurd (false≢true is)
first-is c (b ∷ text) is = ap (λ (x : ℕ). x ∷ text) (eqb-true b c is)

pub two-are : (c d : ℕ) (text : List ℕ) → (begins_with c text && begins_with d (drop 1 text)) ≡ true → text ≡ c ∷ d ∷ drop 2 text
two-are c d [] is = absurd (false≢true is)
two-are c d (b ∷ text) is =
    let one = first-is c (b ∷ text) (and_left (begins_with c (b ∷ text)) (begins_with d text) is) in
    let two = first-is d text (and_right (begins_with c (b ∷ text)) (begins_with d text) is) in
    one ∙ ap (λ (t : List ℕ). c ∷ t) two

pub opens-are : (text : List ℕ) → opens_comment text ≡ true → text ≡ 35 ∷ 124 ∷ drop 2 text
opens-are text is = two-are 35 124 text is

pub closes-are : (text : List ℕ) → closes_comment text ≡ true → text ≡ 124 ∷ 35 ∷ drop 2 text
closes-are text is = two-are 124 35 text is

-- ---- one place to close

pub data Mark : Type 0 where
  an_open : Mark
  a_close : Mark
  no_mark : Mark

abbrev pub mark_of : List ℕ → Mark
mark_of text = cond (opens_comment text) an_open (cond (closes_comment text) a_close no_mark)

pub record Nested (text : List ℕ) (n : ℕ) : Type 0 where
  pub first : ℕ
  pub second : ℕ
  pub inner : Closes (drop 2 text) first
  pub outer : Closes (drop first (drop 2 text)) second
  pub sum : n ≡ 2 + (first + second)

pub record Later (text : List ℕ) (n : ℕ) : Type 0 where
  pub len : ℕ
  pub closes : Closes (drop 1 text) len
  pub sum : n ≡ len + 1

abbrev pub ClosesAs : Mark → List ℕ → ℕ → Type 0
ClosesAs an_open text n = Nested text n
ClosesAs a_close text n = n ≡ 2
ClosesAs no_mark text n = Later text n

none-at : (text : List ℕ) → opens_comment text ≡ false → closes_comment text ≡ false → mark_of text ≡ no_mark
none-at text no_open no_close = rw (no_open, no_close) refl

pub closes-by : (text : List ℕ) (n : ℕ) → Closes text n → ClosesAs (mark_of text) text n
closes-by text n (mark t) = refl
closes-by text n (nested t i j inner outer) = record { first = i; second = j; inner = inner; outer = outer; sum = refl }
closes-by text n (other b t i no_open no_close more) =
    subst (λ (k : Mark). ClosesAs k (b ∷ t) (i + 1)) (sym (none-at (b ∷ t) no_open no_close)) (record { len = i; closes = more; sum = refl })

closes-at : (text : List ℕ) (n : ℕ) (k : Mark) → mark_of text ≡ k → Closes text n → ClosesAs k text n
closes-at text n k is closes = subst (λ (j : Mark). ClosesAs j text n) is (closes-by text n closes)

some-by : (text : List ℕ) (n : ℕ) → Closes text n → 0 < length text
some-by text n (mark t) = omega arith
some-by text n (nested t i j inner outer) = omega arith
some-by text n (other b t i no_open no_close more) = omega arith

pub closes-none : (n : ℕ) → Closes [] n → ⊥
closes-none n closes = absurd (omega (arith, some-by [] n closes))

pub Closes-unique : (text : List ℕ) (n m : ℕ) → Closes text n → Closes text m → m ≡ n
Closes-unique text n m (mark t) h = closes-by (124 ∷ 35 ∷ t) m h
Closes-unique text n m (nested t i j inner outer) h =
    let way : Nested (35 ∷ 124 ∷ t) m = closes-by (35 ∷ 124 ∷ t) m h in
    let one = Closes-unique t i way.first inner way.inner in
    let two = Closes-unique (drop i t) j way.second outer (subst (λ (k : ℕ). Closes (drop k t) way.second) one way.outer) in
    way.sum ∙ (ap (λ (k : ℕ). 2 + (k + way.second)) one ∙ ap (λ (k : ℕ). 2 + (i + k)) two)
Closes-unique text n m (other b t i no_open no_close more) h =
    let way : Later (b ∷ t) m = closes-at (b ∷ t) m no_mark (none-at (b ∷ t) no_open no_close) h in
    way.sum ∙ ap (λ (k : ℕ). k + 1) (Closes-unique t i way.len more way.closes)

-- ---- so many comments that close one after the other

abbrev pub Many : ℕ → List ℕ → ℕ → Type 0
Many zero text n = n ≡ 0
Many (suc k) text n = (len : ℕ) × (rest : ℕ) × Closes text len × Many k (drop len text) rest × (n ≡ len + rest)

-- one is a comment
pub Many-one : (text : List ℕ) (n : ℕ) → Many (suc zero) text n → Closes text n
Many-one text n way = subst (Closes text) (sym (omega (arith, way.3, way.4))) way.2

pub one-Many : (text : List ℕ) (n : ℕ) → Closes text n → Many (suc zero) text n
one-Many text n closes = (n, 0, closes, refl, omega arith)

-- ---- where a mark opens one more

drop-thrice : (text : List ℕ) (m n : ℕ) → drop (2 + (m + n)) text ≡ drop n (drop m (drop 2 text))
drop-thrice text m n = sym (drop-drop n m (drop 2 text) ∙ drop-drop (m + n) 2 text)

pub Many-open : (k : ℕ) (text : List ℕ) (n : ℕ) → opens_comment text ≡ true → Many (suc (suc k)) (drop 2 text) n → Many (suc k) text (2 + n)
Many-open k text n is way =
    let t = drop 2 text in
    let next = way.3 in
    let here : Closes (35 ∷ 124 ∷ t) (2 + (way.0 + next.0)) = nested t way.0 next.0 way.2 next.2 in
    let e : drop (2 + (way.0 + next.0)) text ≡ drop next.0 (drop way.0 t) = drop-thrice text way.0 next.0 in
    (2 + (way.0 + next.0), next.1, subst (λ (x : List ℕ). Closes x (2 + (way.0 + next.0))) (sym (opens-are text is)) here, subst (λ (x : List ℕ). Many k x next.1) (sym e) next.3, omega (arith, way.4, next.4))

pub open-Many : (k : ℕ) (text : List ℕ) (n : ℕ) → opens_comment text ≡ true → Many (suc k) text n → (m : ℕ) × Many (suc (suc k)) (drop 2 text) m
open-Many k text n is way =
    let e : mark_of text ≡ an_open = rw is refl in
    let inside : Nested text way.0 = closes-at text way.0 an_open e way.2 in
    let t = drop 2 text in
    let same : drop way.0 text ≡ drop inside.second (drop inside.first t) = ap (λ (j : ℕ). drop j text) inside.sum ∙ drop-thrice text inside.first inside.second in
    (inside.first + (inside.second + way.1), (inside.first, inside.second + way.1, inside.inner, (inside.second, way.1, inside.outer, subst (λ (x : List ℕ). Many k x way.1) same way.3, refl), refl))

-- ---- where a mark closes one

pub Many-close : (k : ℕ) (text : List ℕ) (n : ℕ) → closes_comment text ≡ true → Many k (drop 2 text) n → Many (suc k) text (2 + n)
Many-close k text n is way =
    (2, n, subst (λ (x : List ℕ). Closes x 2) (sym (closes-are text is)) (mark (drop 2 text)), way, refl)

pub close-Many : (k : ℕ) (text : List ℕ) (n : ℕ) → closes_comment text ≡ true → Many (suc k) text n → (m : ℕ) × Many k (drop 2 text) m
close-Many k text n is way =
    let e : mark_of text ≡ a_close = rw (closes-are text is) refl in
    let two : way.0 ≡ 2 = closes-at text way.0 a_close e way.2 in
    (way.1, subst (λ (j : ℕ). Many k (drop j text) way.1) two way.3)

-- ---- where neither does

pub Many-other : (k b : ℕ) (text : List ℕ) (n : ℕ) → opens_comment (b ∷ text) ≡ false → closes_comment (b ∷ text) ≡ false → Many (suc k) text n → Many (suc k) (b ∷ text) (n + 1)
Many-other k b text n no_open no_close way =
    let e : drop (way.0 + 1) (b ∷ text) ≡ drop way.0 text = rw add-one refl in
    (way.0 + 1, way.1, other b text way.0 no_open no_close way.2, subst (λ (x : List ℕ). Many k x way.1) (sym e) way.3, omega (arith, way.4))

pub other-Many : (k b : ℕ) (text : List ℕ) (n : ℕ) → opens_comment (b ∷ text) ≡ false → closes_comment (b ∷ text) ≡ false → Many (suc k) (b ∷ text) n → (m : ℕ) × Many (suc k) text m
other-Many k b text n no_open no_close way =
    let later : Later (b ∷ text) way.0 = closes-at (b ∷ text) way.0 no_mark (none-at (b ∷ text) no_open no_close) way.2 in
    let next : drop (later.len + 1) (b ∷ text) ≡ drop later.len text = rw add-one refl in
    let e : drop way.0 (b ∷ text) ≡ drop later.len text = ap (λ (j : ℕ). drop j (b ∷ text)) later.sum ∙ next in
    (later.len + way.1, (later.len, way.1, later.closes, subst (λ (x : List ℕ). Many k x way.1) e way.3, refl))

-- ---- where the scan of a comment stands, with so many open in it

pub record Inside (text : List ℕ) (inner at : ℕ) : Type 0 where
  pub within : at ≤ length text
  pub few : inner ≤ at
  pub forward : (n : ℕ) → Many (suc inner) (drop at text) n → Closes text (at + n)
  pub back : (n : ℕ) → Closes text n → (m : ℕ) × Many (suc inner) (drop at text) m

Closes-same : (text : List ℕ) (m n : ℕ) → m ≡ n → Closes text m → Closes text n
Closes-same text m n same closes = subst (Closes text) same closes

pub Inside-start : (text : List ℕ) → Inside text 0 0
Inside-start text = record {
  within = omega arith;
  few = omega arith;
  forward = λ n way. Closes-same text n (0 + n) (omega arith) (Many-one text n way);
  back = λ n closes. (n, one-Many text n closes);
}

pub Inside-open : (text : List ℕ) (inner at : ℕ) → at + 2 ≤ length text → opens_comment (drop at text) ≡ true → Inside text inner at → Inside text (inner + 1) (at + 2)
Inside-open text inner at room is so =
    let place : drop 2 (drop at text) ≡ drop (at + 2) text = drop-drop 2 at text in
    let count : suc inner ≡ inner + 1 = sym (add-one inner) in
    record {
      within = room;
      few = omega (arith, so.few);
      forward = λ n way.
          let there : Many (suc (suc inner)) (drop (at + 2) text) n = subst (λ (k : ℕ). Many (suc k) (drop (at + 2) text) n) (sym count) way in
          let way' : Many (suc (suc inner)) (drop 2 (drop at text)) n = rw place there in
          Closes-same text (at + (2 + n)) (at + 2 + n) (omega arith) (so.forward (2 + n) (Many-open inner (drop at text) n is way'));
      back = λ n closes.
          let before = so.back n closes in
          let after = open-Many inner (drop at text) before.0 is before.1 in
          let there : Many (suc (suc inner)) (drop (at + 2) text) after.0 = rw (← place) after.1 in
          (after.0, subst (λ (k : ℕ). Many (suc k) (drop (at + 2) text) after.0) count there);
    }

pub Inside-close : (text : List ℕ) (inner at : ℕ) → at + 2 ≤ length text → closes_comment (drop at text) ≡ true → 0 < inner → Inside text inner at → Inside text (inner - 1) (at + 2)
Inside-close text inner at room is some so =
    let place : drop 2 (drop at text) ≡ drop (at + 2) text = drop-drop 2 at text in
    let count : inner ≡ suc (inner - 1) = omega arith in
    record {
      within = room;
      few = omega (arith, so.few);
      forward = λ n way.
          let way' : Many inner (drop 2 (drop at text)) n = subst (λ (k : ℕ). Many k (drop 2 (drop at text)) n) (sym count) (rw place way) in
          Closes-same text (at + (2 + n)) (at + 2 + n) (omega arith) (so.forward (2 + n) (Many-close inner (drop at text) n is way'));
      back = λ n closes.
          let before = so.back n closes in
          let after = close-Many inner (drop at text) before.0 is before.1 in
          let way : Many (suc (inner - 1)) (drop (at + 2) text) after.0 = subst (λ (k : ℕ). Many k (drop (at + 2) text) after.0) count (rw (← place) after.1) in
          (after.0, way);
    }

pub Inside-last : (text : List ℕ) (inner at : ℕ) → closes_comment (drop at text) ≡ true → inner ≤ 0 → Inside text inner at → Closes text (at + 2)
Inside-last text inner at is none so =
    let count : 0 ≡ inner = omega arith in
    let way : Many inner (drop 2 (drop at text)) 0 = subst (λ (k : ℕ). Many k (drop 2 (drop at text)) 0) count refl in
    Closes-same text (at + (2 + 0)) (at + 2) (omega arith) (so.forward (2 + 0) (Many-close inner (drop at text) 0 is way))

pub Inside-other : (text : List ℕ) (inner at : ℕ) → at < length text → opens_comment (drop at text) ≡ false → closes_comment (drop at text) ≡ false → Inside text inner at → Inside text inner (at + 1)
Inside-other text inner at inside no_open no_close so =
    let b = get_or text at 0 in
    let e : drop at text ≡ b ∷ drop (at + 1) text = drop_more text at 0 inside in
    let no_open' : opens_comment (b ∷ drop (at + 1) text) ≡ false = ap opens_comment (sym e) ∙ no_open in
    let no_close' : closes_comment (b ∷ drop (at + 1) text) ≡ false = ap closes_comment (sym e) ∙ no_close in
    record {
      within = omega arith;
      few = omega (arith, so.few);
      forward = λ n way.
          let way' : Many (suc inner) (drop at text) (n + 1) = rw e (Many-other inner b (drop (at + 1) text) n no_open' no_close' way) in
          Closes-same text (at + (n + 1)) (at + 1 + n) (omega arith) (so.forward (n + 1) way');
      back = λ n closes.
          let before = so.back n closes in
          other-Many inner b (drop (at + 1) text) before.0 no_open' no_close' (subst (λ (t : List ℕ). Many (suc inner) t before.0) e before.1);
    }

pub Inside-end : (text : List ℕ) (inner at : ℕ) → length text ≤ at → Inside text inner at → Unclosed text
Inside-end text inner at end so = λ n closes.
    let before = so.back n closes in
    closes-none before.1.0 (subst (λ (t : List ℕ). Closes t before.1.0) (drop_all at text end) before.1.2)
