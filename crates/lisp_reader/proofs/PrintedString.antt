-- A string that is printed readably is read as that string.
use Rattle.std.proofs.Common.{◌≡◌, ◌≢◌, ◌∙◌, ℕ, ◌+◌, ◌<◌, true, false, ◌⊎◌, inl, inr, List, [], ◌∷◌, ◌++◌, length, get_or, take, drop, suc, IsUtf8, refl, sym, ap, subst, arith, ne_eqb, append_assoc, append-nil}
use Rattle.std.specs.Prelude.{encode_utf8, encode_utf8_all}
use Rattle.std.specs.List.{flat_map}
use Rattle.std.specs.Str.{chars}
use Rattle.std.proofs.Math.Seq.{take-append_seam, drop-append_seam}
use Rattle.std.proofs.Math.Utf8.{scalar, scalars}
use Rattle.std.proofs.lemmas.Bool.{and_parts}
use Rattle.std.proofs.lemmas.Bool.Decides.{eqb_tells}
use Rattle.std.proofs.lemmas.Grind.{flat_map-append}
use Rattle.std.proofs.lemmas.List.{length-append}
use Rattle.std.proofs.lemmas.Str.{chars-encodes, encode_ascii, encodes-append, inside_one}
use Rattle.lisp_data.specs.Datum.{string}
use Rattle.lisp_data.specs.Print.{escaped, string_text}
use Rattle.lisp_tokens.specs.Reading.{Spells, in_quotes}
use Rattle.lisp_tokens.specs.Strings.{body_len, body, after_body, unescaped, characters}

-- a double quote, a backslash, or neither
abbrev Kinds : ℕ → Type 0
Kinds c = (c ≡ 34) ⊎ ((c ≡ 92) ⊎ ((c ≢ 34) × (c ≢ 92)))

kinds : (c : ℕ) → Kinds c
kinds c = elim (eqb_tells c 34) [
  | inl is ↦ inl is.1
  | inr no_quote ↦ elim (eqb_tells c 92) [
    | inl is ↦ inr (inl is.1)
    | inr no_backslash ↦ inr (inr (no_quote.1, no_backslash.1))
  ]
]

-- ---- the body of what is printed is what stands between the quotes

one-escaped : (c n : ℕ) (text : List ℕ) → Kinds c → body_len false text ≡ n → body_len false (escaped c ++ text) ≡ length (escaped c) + n
one-escaped c n text (inl is) e = rw is (omega (arith, e))
one-escaped c n text (inr (inl is)) e = rw is (omega (arith, e))
one-escaped c n text (inr (inr other)) e =
    let no_quote = ne_eqb c 34 other.0 in
    let no_backslash = ne_eqb c 92 other.1 in
    rw (no_quote, no_backslash) (rw (no_quote, no_backslash) (omega (arith, e)))

printed-len : (s rest : List ℕ) → body_len false (flat_map escaped s ++ (34 ∷ rest)) ≡ length (flat_map escaped s)
printed-len [] rest = refl
printed-len (c ∷ s) rest =
    let text = flat_map escaped s in
    let more = one-escaped c (length text) (text ++ (34 ∷ rest)) (kinds c) (printed-len s rest) in
    ap (body_len false) (append_assoc (escaped c) text (34 ∷ rest)) ∙ (more ∙ sym (length-append (escaped c) text))

-- ---- its characters are those of the string

one-unescaped : (c : ℕ) (cs : List ℕ) → Kinds c → unescaped false (escaped c ++ cs) ≡ c ∷ unescaped false cs
one-unescaped c cs (inl is) = rw is refl
one-unescaped c cs (inr (inl is)) = rw is refl
one-unescaped c cs (inr (inr other)) =
    let no_backslash = ne_eqb c 92 other.1 in
    rw (ne_eqb c 34 other.0, no_backslash) (rw no_backslash refl)

unescaped-printed : (cs : List ℕ) → unescaped false (flat_map escaped cs) ≡ cs
unescaped-printed [] = refl
unescaped-printed (c ∷ cs) =
    one-unescaped c (flat_map escaped cs) (kinds c) ∙ ap (λ (l : List ℕ). c ∷ l) (unescaped-printed cs)

one-scalar : (c : ℕ) (cs : List ℕ) → Kinds c → scalar c ≡ true → scalars cs ≡ true → scalars (escaped c ++ cs) ≡ true
one-scalar c cs (inl is) one all = rw (is, all) refl
one-scalar c cs (inr (inl is)) one all = rw (is, all) refl
one-scalar c cs (inr (inr other)) one all = rw (ne_eqb c 34 other.0, ne_eqb c 92 other.1, one, all) refl

scalars-printed : (cs : List ℕ) → scalars cs ≡ true → scalars (flat_map escaped cs) ≡ true
scalars-printed [] all = refl
scalars-printed (c ∷ cs) all =
    let both : (scalar c ≡ true) × (scalars cs ≡ true) = and_parts (scalar c) (scalars cs) all in
    one-scalar c (flat_map escaped cs) (kinds c) both.0 (scalars-printed cs both.1)

-- ---- a character is escaped as its bytes are: a quote or a backslash is one byte, and no other has one of these

kept : (bs : List ℕ) → ((k : ℕ) → k < length bs → (get_or bs k 0 ≢ 34) × (get_or bs k 0 ≢ 92)) → flat_map escaped bs ≡ bs
kept [] others = refl
kept (b ∷ bs) others =
    let here = others 0 (omega arith) in
    let more = kept bs (λ k within. others (suc k) (omega arith)) in
    rw (ne_eqb b 34 here.0, ne_eqb b 92 here.1, more) refl

no_such_byte : (c b : ℕ) → b < 128 → c ≢ b → (k : ℕ) → k < length (encode_utf8 c) → get_or (encode_utf8 c) k 0 ≢ b
no_such_byte c b ascii other k within is =
    other (inside_one c [] (encode_utf8 c) k (sym (append-nil (encode_utf8 c))) within (omega arith) ∙ is)

one-encoded : (c : ℕ) → Kinds c → flat_map escaped (encode_utf8 c) ≡ encode_utf8_all (escaped c)
one-encoded c (inl is) = rw (is, encode_ascii 34 (omega arith), encode_ascii 92 (omega arith)) refl
one-encoded c (inr (inl is)) = rw (is, encode_ascii 92 (omega arith)) refl
one-encoded c (inr (inr other)) =
    let same : flat_map escaped (encode_utf8 c) ≡ encode_utf8 c = kept (encode_utf8 c) (λ k within. (no_such_byte c 34 (omega arith) other.0 k within, no_such_byte c 92 (omega arith) other.1 k within)) in
    rw (ne_eqb c 34 other.0, ne_eqb c 92 other.1) (same ∙ sym (append-nil (encode_utf8 c)))

printed-encoded : (cs : List ℕ) → flat_map escaped (encode_utf8_all cs) ≡ encode_utf8_all (flat_map escaped cs)
printed-encoded [] = refl
printed-encoded (c ∷ cs) =
    flat_map-append escaped (encode_utf8 c) (encode_utf8_all cs)
    ∙ (ap (λ (l : List ℕ). l ++ flat_map escaped (encode_utf8_all cs)) (one-encoded c (kinds c))
    ∙ (ap (λ (l : List ℕ). encode_utf8_all (escaped c) ++ l) (printed-encoded cs)
    ∙ sym (encodes-append (escaped c) (flat_map escaped cs))))

-- what is printed between the quotes is text, and its characters are those of the string
record Printed (s : List ℕ) : Type 0 where
  utf8 : IsUtf8 (flat_map escaped s)
  holds : characters (flat_map escaped s) ≡ s

printed-chars : (cs : List ℕ) → scalars cs ≡ true → Printed (encode_utf8_all cs)
printed-chars cs all =
    let out = flat_map escaped cs in
    let is : flat_map escaped (encode_utf8_all cs) ≡ encode_utf8_all out = printed-encoded cs in
    let decoded : chars (encode_utf8_all out) ≡ out = chars-encodes out (scalars-printed cs all) in
    record {
      utf8 = (out, (scalars-printed cs all, sym is));
      holds = ap characters is ∙ ap encode_utf8_all (ap (unescaped false) decoded ∙ unescaped-printed cs);
    }

printed : (s : List ℕ) → IsUtf8 s → Printed s
printed s u = subst Printed u.1.1 (printed-chars u.0 u.1.0)

-- ---- such a string is spelled by what it prints as

pub Spells-printed_string : (room : ℕ) (s rest : List ℕ) → IsUtf8 s → Spells room (string_text true s ++ rest) (string s) rest
Spells-printed_string room s rest u =
    let out = flat_map escaped s in
    let text = out ++ (34 ∷ rest) in
    let p = printed s u in
    let n : body_len false text ≡ length out = printed-len s rest in
    let is : body text ≡ out = ap (λ (k : ℕ). take k text) n ∙ take-append_seam out (34 ∷ rest) in
    let after : after_body text ≡ 34 ∷ rest = ap (λ (k : ℕ). drop k text) n ∙ drop-append_seam out (34 ∷ rest) in
    let here : Spells room (34 ∷ text) (string (characters (body text))) rest = in_quotes room text rest (subst IsUtf8 (sym is) p.utf8) after in
    let there : Spells room (34 ∷ text) (string s) rest = subst (λ (t : List ℕ). Spells room (34 ∷ text) (string t) rest) (ap characters is ∙ p.holds) here in
    subst (λ (t : List ℕ). Spells room (34 ∷ t) (string s) rest) (sym (append_assoc out (34 ∷ []) rest)) there
