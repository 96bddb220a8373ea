-- The functions of the language are those that have a name among theirs.
use Rattle.std.proofs.Common.{◌≡◌, ℕ, Bool, true, false, ◌||◌, List, [], ◌∷◌, ◌++◌, Option, Some, None, map, refl, ap, subst, sym, ◌∙◌, true≢false}
use Rattle.std.specs.Prelude.{codes, if◌then◌else◌, is_some}
use Rattle.std.specs.Cmp.{first_so, second_so}
use Rattle.std.specs.List.{list_all, list_any}
use Rattle.std.specs.Str.{bytes_eq}
use Rattle.std.proofs.lemmas.List.Folds.{list_any-append}
use Rattle.std.proofs.lemmas.Slice.Eq.{bytes_eq-Decides}
use Rattle.lisp_data.specs.Name.{Name}
use Rattle.clos_forms.specs.clos_names.Callee.{callee_of, class_function, class_function_of, slot_function, slot_function_of, value_function}
use Rattle.clos_forms.specs.clos_names.Names.{functions, is_one_of}
use Rattle.clos_forms.specs.clos_names.declared.callee.Callee.{Callee}
use Rattle.clos_forms.specs.clos_names.declared.callee.Callee.TheVariants.{Output, Terpri, MakeInstance, ChangeClass, FindMethod, NativeCall}
use Rattle.clos_forms.specs.clos_names.declared.callee.ClassFunction.{ClassFunction}
use Rattle.clos_forms.specs.clos_names.declared.callee.ClassFunction.TheVariants.{ClassOf, ClassName, ClassPrecedenceList, FindClass, Typep}
use Rattle.clos_forms.specs.clos_names.declared.callee.Output.TheVariants.{Princ, Prin1, Print}
use Rattle.clos_forms.specs.clos_names.declared.callee.SlotFunction.{SlotFunction}
use Rattle.clos_forms.specs.clos_names.declared.callee.SlotFunction.TheVariants.{SlotValue, SlotBoundp, SlotMakunbound, SlotExistsP}
use Rattle.clos_session.specs.clos_definition_forms.lisp_prims.lisp_functions.Primitive.{entry_of, names, primitive_of}
use Rattle.clos_session.specs.clos_definition_forms.lisp_prims.lisp_functions.declared.primitive.Primitive.{Primitive}
use Rattle.clos_laws.specs.Names.{FunctionsAreNamed, is_of_language}

-- ---- tests that hold alike

alike : (a b : Bool) → (a ≡ true → b ≡ true) → (b ≡ true → a ≡ true) → a ≡ b
alike true b h k = sym (h refl)
alike false true h k = k refl
alike false false h k = refl

turned : (xs ys : List ℕ) → bytes_eq xs ys ≡ bytes_eq ys xs
turned xs ys =
    alike (bytes_eq xs ys) (bytes_eq ys xs) (λ e. (bytes_eq-Decides ys xs).1 (sym ((bytes_eq-Decides xs ys).0 e)))
    (λ e. (bytes_eq-Decides xs ys).1 (sym ((bytes_eq-Decides ys xs).0 e)))

-- whether each of these texts is one of those
abbrev are_among : List (List ℕ) → List (List ℕ) → Bool
are_among ones others = list_all (λ t. list_any (bytes_eq t) others) ones

first_or : (a b : Bool) → a ≡ true → (a || b) ≡ true
first_or a b h = ap (λ x. x || b) h

second_or : (a b : Bool) → b ≡ true → (a || b) ≡ true
second_or true b h = refl
second_or false b h = h

module _ (p : List ℕ → Bool) where
  found_by : (b : Bool) (t u : List ℕ) (more : List (List ℕ)) → bytes_eq t u ≡ b → (b || list_any (bytes_eq t) more) ≡ true → p t ≡ true
      → (list_any (bytes_eq t) more ≡ true → list_any p more ≡ true) → (p u || list_any p more) ≡ true
  found_by true t u more e h k rest = first_or (p u) (list_any p more) (subst (λ x. p x ≡ true) ((bytes_eq-Decides t u).0 e) k)
  found_by false t u more e h k rest = second_or (p u) (list_any p more) (rest h)

  -- a text that is one of these, and so is one that passes
  found : (t : List ℕ) (others : List (List ℕ)) → list_any (bytes_eq t) others ≡ true → p t ≡ true → list_any p others ≡ true
  found t [] h k = absurd (true≢false (sym h))
  found t (u ∷ more) h k = found_by (bytes_eq t u) t u more refl h k (λ i. found t more i k)

  passes_by : (b : Bool) (t : List ℕ) (ones others : List (List ℕ)) → p t ≡ b → (b || list_any p ones) ≡ true
      → list_any (bytes_eq t) others ≡ true → (list_any p ones ≡ true → list_any p others ≡ true) → list_any p others ≡ true
  passes_by true t ones others e h among rest = found t others among e
  passes_by false t ones others e h among rest = rest h

  passes : (ones others : List (List ℕ)) → are_among ones others ≡ true → list_any p ones ≡ true → list_any p others ≡ true
  passes [] others h k = absurd (true≢false (sym k))
  passes (t ∷ ones) others h k =
      passes_by (p t) t ones others refl k (first_so (list_any (bytes_eq t) others) (are_among ones others) h)
      (passes ones others (second_so (list_any (bytes_eq t) others) (are_among ones others) h))

  -- lists with the same texts
  same_texts : (ones others : List (List ℕ)) → are_among ones others ≡ true → are_among others ones ≡ true
      → list_any p ones ≡ list_any p others
  same_texts ones others h k = alike (list_any p ones) (list_any p others) (passes ones others h) (passes others ones k)

-- ---- what is called by a text

module _ (text : List ℕ) where
  abbrev named : Name
  named = record { text = text; keyword = false }

  -- whether it is this text
  abbrev is_it : List ℕ → Bool
  is_it t = bytes_eq t text

  abbrev texts : {X : Type 0} → List (List ℕ × X) → List (List ℕ)
  texts es = map (λ e. e.0) es

  -- what the first of these is whose text it is, or else this
  abbrev chosen : List (List ℕ × Callee) → Callee → Callee
  chosen [] c = c
  chosen (e ∷ es) c = if bytes_eq text e.0 then e.1 else chosen es c

  if_of : (b : Bool) (x y : Callee) → is_of_language x ≡ true → is_of_language (if b then x else y) ≡ (b || is_of_language y)
  if_of true x y h = h
  if_of false x y h = refl

  or_next : (a b c : Bool) → (a || (b || c)) ≡ ((a || b) || c)
  or_next true b c = refl
  or_next false b c = refl

  of_chosen : (es : List (List ℕ × Callee)) (c : Callee) → list_all (λ e. is_of_language e.1) es ≡ true
      → is_of_language (chosen es c) ≡ (list_any is_it (texts es) || is_of_language c)
  of_chosen [] c h = refl
  of_chosen (e ∷ es) c h =
      if_of (bytes_eq text e.0) e.1 (chosen es c) (first_so (is_of_language e.1) (list_all (λ e. is_of_language e.1) es) h)
      ∙ ap (λ b. b || is_of_language (chosen es c)) (turned text e.0)
      ∙ ap (λ b. is_it e.0 || b) (of_chosen es c (second_so (is_of_language e.1) (list_all (λ e. is_of_language e.1) es) h))
      ∙ or_next (is_it e.0) (list_any is_it (texts es)) (is_of_language c)

  if_some : {X : Type 0} (b : Bool) (x : X) (o : Option X) → is_some (if b then Some x else o) ≡ (b || is_some o)
  if_some true x o = refl
  if_some false x o = refl

  -- the first of these whose text it is
  abbrev picked : {X : Type 0} → List (List ℕ × X) → Option X
  picked [] = None
  picked (e ∷ es) = if bytes_eq text e.0 then Some e.1 else picked es

  is_picked : {X : Type 0} (es : List (List ℕ × X)) → is_some (picked es) ≡ list_any is_it (texts es)
  is_picked [] = refl
  is_picked (e ∷ es) =
      if_some (bytes_eq text e.0) e.1 (picked es) ∙ ap (λ b. b || is_some (picked es)) (turned text e.0)
      ∙ ap (λ b. is_it e.0 || b) (is_picked es)

  is_entry : (es : List (List ℕ × Primitive)) → is_some (entry_of es text) ≡ list_any is_it (texts es)
  is_entry [] = refl
  is_entry (e ∷ es) = if_some (is_it e.0) e.1 (entry_of es text) ∙ ap (λ b. is_it e.0 || b) (is_entry es)

  of_class : (o : Option ClassFunction) (c : Callee) → is_of_language (class_function o c) ≡ (is_some o || is_of_language c)
  of_class None c = refl
  of_class (Some f) c = refl

  of_value : (o : Option Primitive) → is_of_language (value_function o) ≡ is_some o
  of_value None = refl
  of_value (Some p) = refl

  of_slot : (o : Option SlotFunction) → is_of_language (slot_function o named) ≡ (is_some o || is_some (primitive_of named))
  of_slot None = of_value (primitive_of named)
  of_slot (Some f) = refl

  abbrev others : List (List ℕ × Callee)
  others =
      (codes "PRINC", Output Princ) ∷ (codes "PRIN1", Output Prin1) ∷ (codes "PRINT", Output Print) ∷ (codes "TERPRI", Terpri)
      ∷ (codes "MAKE-INSTANCE", MakeInstance) ∷ (codes "CHANGE-CLASS", ChangeClass) ∷ (codes "FIND-METHOD", FindMethod)
      ∷ (codes "NATIVE-CALL", NativeCall) ∷ []

  abbrev of_classes : List (List ℕ × ClassFunction)
  of_classes =
      (codes "CLASS-OF", ClassOf) ∷ (codes "CLASS-NAME", ClassName) ∷ (codes "CLASS-PRECEDENCE-LIST", ClassPrecedenceList)
      ∷ (codes "FIND-CLASS", FindClass) ∷ (codes "TYPEP", Typep) ∷ []

  abbrev of_slots : List (List ℕ × SlotFunction)
  of_slots =
      (codes "SLOT-VALUE", SlotValue) ∷ (codes "SLOT-BOUNDP", SlotBoundp) ∷ (codes "SLOT-MAKUNBOUND", SlotMakunbound)
      ∷ (codes "SLOT-EXISTS-P", SlotExistsP) ∷ []

  abbrev all_texts : List (List ℕ)
  all_texts = texts others ++ (texts of_classes ++ (texts of_slots ++ texts names))

  both_any : (xs ys : List (List ℕ)) (b : Bool) → b ≡ list_any is_it ys → (list_any is_it xs || b) ≡ list_any is_it (xs ++ ys)
  both_any xs ys b h = ap (λ c. list_any is_it xs || c) h ∙ sym (list_any-append is_it xs ys)

  of_slots_or_values : is_of_language (slot_function (slot_function_of named) named) ≡ list_any is_it (texts of_slots ++ texts names)
  of_slots_or_values =
      of_slot (picked of_slots) ∙ ap (λ b. b || is_some (entry_of names text)) (is_picked of_slots)
      ∙ both_any (texts of_slots) (texts names) (is_some (entry_of names text)) (is_entry names)

  of_classes_or_others : is_of_language (class_function (class_function_of named) (slot_function (slot_function_of named) named))
      ≡ list_any is_it (texts of_classes ++ (texts of_slots ++ texts names))
  of_classes_or_others =
      of_class (picked of_classes) (slot_function (slot_function_of named) named)
      ∙ ap (λ b. b || is_of_language (slot_function (slot_function_of named) named)) (is_picked of_classes)
      ∙ both_any (texts of_classes) (texts of_slots ++ texts names) (is_of_language (slot_function (slot_function_of named) named)) of_slots_or_values

  of_text : is_of_language (callee_of named) ≡ list_any is_it all_texts
  of_text =
      of_chosen others (class_function (class_function_of named) (slot_function (slot_function_of named) named)) refl
      ∙ both_any (texts others) (texts of_classes ++ (texts of_slots ++ texts names))
      (is_of_language (class_function (class_function_of named) (slot_function (slot_function_of named) named))) of_classes_or_others

  named_alike : is_of_language (callee_of named) ≡ is_one_of functions named
  named_alike = of_text ∙ same_texts is_it all_texts functions refl refl

by_kind : (text : List ℕ) (keyword : Bool) → is_of_language (callee_of (record { text = text; keyword = keyword }))
    ≡ is_one_of functions (record { text = text; keyword = keyword })
by_kind text true = refl
by_kind text false = named_alike text

pub functions_are_named : FunctionsAreNamed
functions_are_named name = by_kind name.text name.keyword
