-- Files that run one after another.
use Rattle.std.proofs.Common.{◌≡◌, ◌⊎◌, ◌∙◌, ◌||◌, ℕ, ◌<◌, ◌+◌, List, [], ◌∷◌, ◌++◌, Option, Some, None, Result, Ok, Err, Bool, true, false, drop, get_or, length, map, refl, sym, ap, subst, inl, inr, append_assoc}
use Rattle.std.specs.Borrow.{Bor}
use Rattle.std.specs.Prelude.{IfErr, IfSome, if◌then◌else◌}
use Rattle.std.specs.Io.KnownBytes.{Appends, Keeps}
use Rattle.std.proofs.KnownBytes.{Appends-nil, Appends-trans, Keeps-refl}
use Rattle.std.proofs.lemmas.List.{drop_more}
use Rattle.clos_ending.specs.clos_system.clos_session.Session.{Standing}
use Rattle.clos_ending.specs.clos_system.clos_session.clos_machine.clos_meaning.Host.{Host}
use Rattle.clos_ending.specs.clos_system.declared.transcript.RunFault.{RunFault}
use Rattle.clos_ending.specs.clos_system.declared.transcript.RunFault.TheVariants.{Read, TooLong, Reader, Write, Memory}
use Rattle.clos_ending.specs.clos_system.Transcript.{RunFaults}
use Rattle.clos_program.specs.Files.{Stopped, Writes, input_after, known_as, known_texts, next, none}
use Rattle.clos_program.specs.Program.{Failed, Ran, is_input}
use Rattle.clos_program.specs.inner.Files.{SoFar}

-- what is known is what it is
itself : (k : Option (List ℕ)) → IfSome k (λ bytes. k ≡ Some bytes)
itself None = tt
itself (Some bytes) = refl

-- what was appended stays
kept : (a b c : Option (List ℕ)) (bs : List ℕ) → Appends a b bs → Keeps b c → Appends a c bs
kept None b c bs h k = tt
kept (Some xs) None c bs h k = absurd h
kept (Some xs) (Some ys) None bs h k = absurd k
kept (Some xs) (Some ys) (Some zs) bs h k = k ∙ h

module _ (host : Host) (echo : Bool) (w w' : Standing) (old new : Option (List ℕ)) where
  -- a run over a text of which as much is known as is said
  ran_as_said : (told : Bool) (said had : Option (List ℕ)) → IfSome said (λ bytes. had ≡ Some bytes) → Ran host echo had w w' old new told
      → Ran host echo said w w' old new told
  ran_as_said told None had h r = (r.0, r.1, (r.2.0, r.2.1, tt, r.2.3))
  ran_as_said told (Some bytes) had h r = subst (λ k. Ran host echo k w w' old new told) h r

  faults_unsaid : (e : RunFault) (had : Option (List ℕ)) → RunFaults host echo had w w' old new e → RunFaults host echo None w w' old new e
  faults_unsaid Read had h = h
  faults_unsaid TooLong had h = (h.0, h.1, tt)
  faults_unsaid (Reader fault) had h = (h.0, h.1, tt, h.3)
  faults_unsaid Write had h = (h.0, h.1, tt, h.3)
  faults_unsaid Memory had (inl h) = inl h
  faults_unsaid Memory had (inr h) = inr (h.0, h.1, tt, h.3)

  failed_as_said : (said had : Option (List ℕ)) → IfSome said (λ bytes. had ≡ Some bytes) → Failed host echo had w w' old new
      → Failed host echo said w w' old new
  failed_as_said None had h f = (f.0, faults_unsaid f.0 had f.1)
  failed_as_said (Some bytes) had h f = subst (λ k. Failed host echo k w w' old new) h f

-- of a name as much is known as of the input, if it stands for it, and else as of its file
known_still : (text : List ℕ → Option (List ℕ)) (known input : Option (List ℕ)) (name : List ℕ) → IfSome known (λ bytes. input ≡ Some bytes)
    → IfSome (known_as text known name) (λ bytes. known_as text input name ≡ Some bytes)
known_still text known input name h = go (is_input name)
  where
    go : (b : Bool) → IfSome (if b then known else text name) (λ bytes. (if b then input else text name) ≡ Some bytes)
    go true = h
    go false = itself (text name)

known_then : (known input input' : Option (List ℕ)) (name : List ℕ) → IfSome known (λ bytes. input ≡ Some bytes)
    → (is_input name ≡ false → input' ≡ input) → IfSome (input_after name known) (λ bytes. input' ≡ Some bytes)
known_then known input input' name h same = go (is_input name) refl
  where
    go : (b : Bool) → is_input name ≡ b → IfSome (if b then None else known) (λ bytes. input' ≡ Some bytes)
    go true e = tt
    go false e = subst (λ i. IfSome known (λ bytes. i ≡ Some bytes)) (sym (same e)) h

-- the run of the input failed
pub input_failed : {F : Type 0} (A : Type 0) (host : Host) (echo : Bool) (text : List ℕ → Option (List ℕ)) (input : Option (List ℕ)) (name : List ℕ)
    (w w' : Standing) (old new : Option (List ℕ)) (r : Result Bool F) → is_input name ≡ true
    → IfErr r (λ _. Failed host echo input w w' old new) → IfErr r (λ _. A ⊎ Failed host echo (known_as text input name) w w' old new)
input_failed A host echo text input name w w' old new (Ok told) is f = tt
input_failed A host echo text input name w w' old new (Err e) is f = inr (rw is f)

-- before the first file
pub begins : (host : Host) (echo : Bool) (text : List ℕ → Option (List ℕ)) (input : Option (List ℕ)) (names : List (List ℕ)) (start : Standing)
    (old : Option (List ℕ)) → SoFar host host echo text input input names names start start old old false
begins host echo text input names start old = record {
  stays = refl;
  done = [];
  known = input;
  all = refl;
  is = itself input;
  out = [];
  ran = none;
  appends = Appends-nil old;
}

module _ {host host' : Host} {echo : Bool} {text : List ℕ → Option (List ℕ)} {input input' : Option (List ℕ)} {names : List (List ℕ)}
    {start w : Standing} {old mid : Option (List ℕ)} {told : Bool} where
  -- the next name
  pub at_name : (all items : List (Bor (List ℕ))) (i : ℕ) (d : Bor (List ℕ)) → items ≡ all → i < length items
      → SoFar host host' echo text input input' names (map (λ f. f.now) (drop i all)) start w old mid told
      → SoFar host host' echo text input input' names ((get_or items i d).now ∷ map (λ f. f.now) (drop (i + 1) all)) start w old mid told
  at_name all items i d same lt s =
      let here : map (λ f. f.now) (drop i all) ≡ (get_or items i d).now ∷ map (λ f. f.now) (drop (i + 1) all) =
      ap (λ ns. map (λ (f : Bor (List ℕ)). f.now) (drop i ns)) (sym same) ∙ ap (map (λ (f : Bor (List ℕ)). f.now)) (drop_more items i d lt)
      ∙ ap (λ ns. (get_or items i d).now ∷ map (λ (f : Bor (List ℕ)). f.now) (drop (i + 1) ns)) same in
      subst (λ ns. SoFar host host' echo text input input' names ns start w old mid told) here s

  -- a file ran, and the output was flushed
  pub goes_on : {host'' : Host} {input'' mid' new : Option (List ℕ)} {w' : Standing} {name : List ℕ} {left : List (List ℕ)} {told' : Bool}
      → SoFar host host' echo text input input' names (name ∷ left) start w old mid told → host'' ≡ host'
      → Ran host' echo (known_as text input' name) w w' mid mid' told' → (is_input name ≡ false → input'' ≡ input') → Keeps mid' new
      → SoFar host host'' echo text input input'' names left start w' old new (told || told')
  goes_on {input'' = input''} {mid' = mid'} {new = new} {w' = w'} {name = name} {left = left} {told' = told'} s stays ran same keeps =
      let known = known_as text s.known name in
      let ran' : Ran host echo known w w' mid mid' told' =
      ran_as_said host echo w w' mid mid' told' known (known_as text input' name) (known_still text s.known input' name s.is)
      (subst (λ h. Ran h echo (known_as text input' name) w w' mid mid' told') s.stays ran) in
      let over = ran'.2 in
      let writes : Writes host echo known w w' over.3.1.out told' =
      (ran'.0, ran'.1, (over.0, over.1, over.2, (over.3.0, over.3.1.ran, over.3.2))) in
      record {
        stays = stays ∙ s.stays;
        done = s.done ++ known ∷ [];
        known = input_after name s.known;
        all = s.all ∙ sym (append_assoc s.done (known ∷ []) (known_texts text (input_after name s.known) left));
        is = known_then s.known input' input'' name s.is same;
        out = s.out ++ over.3.1.out;
        ran = next s.done w s.out told known w' over.3.1.out told' s.ran writes;
        appends = kept old mid' new (s.out ++ over.3.1.out)
            (Appends-trans old mid mid' s.out over.3.1.out s.appends over.3.1.appends) keeps;
      }

  -- it could not be had, or its run failed
  pub stops : {mid' : Option (List ℕ)} {w' : Standing} {name : List ℕ} {left : List (List ℕ)}
      → SoFar host host' echo text input input' names (name ∷ left) start w old mid told
      → ((w' ≡ w) × Keeps mid mid') ⊎ Failed host' echo (known_as text input' name) w w' mid mid'
      → Stopped host echo (known_texts text input names) start w' old mid'
  stops {mid' = mid'} {w' = w'} {name = name} {left = left} s f = record {
    done = s.done;
    left = known_texts text s.known (name ∷ left);
    all = s.all;
    standing = w;
    out = s.out;
    told = told;
    ran = s.ran;
    came = mid;
    appends = s.appends;
    stops = elim f [
      | inl e ↦ inl e
      | inr e ↦ inr (
        known_as text s.known name,
        known_texts text (input_after name s.known) left,
        refl,
        failed_as_said host echo w w' mid mid' (known_as text s.known name) (known_as text input' name)
            (known_still text s.known input' name s.is)
            (subst (λ h. Failed h echo (known_as text input' name) w w' mid mid') s.stays e),
      )
    ];
  }

  -- what came could not be flushed
  pub unflushed : {left : List (List ℕ)} → SoFar host host' echo text input input' names left start w old mid told
      → Stopped host echo (known_texts text input names) start w old mid
  unflushed {left = left} s = record {
    done = s.done;
    left = known_texts text s.known left;
    all = s.all;
    standing = w;
    out = s.out;
    told = told;
    ran = s.ran;
    came = mid;
    appends = s.appends;
    stops = inl (refl, Keeps-refl mid);
  }
