-- A run over the input, and what follows it.
use Rattle.std.proofs.Common.{◌≡◌, ◌⊎◌, ◌∙◌, ℕ, List, ◌∷◌, ◌++◌, Option, Some, None, Result, Ok, Err, Bool, true, false, length, refl, ap, subst, inl, inr, append_assoc}
use Rattle.std.specs.Prelude.{IfOk, IfErr, MatchResult}
use Rattle.std.specs.Io.KnownBytes.{Appends, Keeps}
use Rattle.std.proofs.lemmas.List.{drop_at}
use Rattle.clos_ending.specs.clos_system.Transcript.{RunFaults}
use Rattle.clos_ending.specs.clos_system.clos_transcript.Told.{ends_line}
use Rattle.clos_ending.specs.clos_system.clos_session.Session.{Standing}
use Rattle.clos_ending.specs.clos_system.clos_session.clos_machine.clos_meaning.Host.{Host}
use Rattle.clos_ending.specs.clos_system.declared.transcript.RunFault.{RunFault}
use Rattle.clos_ending.specs.clos_system.declared.transcript.RunFault.TheVariants.{Read, TooLong, Reader, Write, Memory}
use Rattle.clos_program.specs.Lines.{lined, lined_of}
use Rattle.clos_program.specs.Notices.{with_asked}
use Rattle.clos_ending.specs.Status.{fault_status, status_of}
use Rattle.clos_program.specs.Program.{Failed, Ran, RunsInput, Tells, is_new}
use Rattle.clos_program.specs.declared.output.Output.{Output}
use Rattle.clos_program.proofs.Lines.{came, held, new_lined, stayed}

stays : (known : Option (List ℕ)) → Keeps known known
stays None = tt
stays (Some all) = refl

-- the writer holds what the output passed on, which a flush keeps
kept : (k : Option (List ℕ)) (c n : ℕ) (f : Bool) (all : List ℕ) (known : Option (List ℕ)) → known ≡ Some (n ∷ all)
    → Keeps known (lined c f k) → k ≡ Some all
kept k c n f all known is h =
    let h' : Keeps (Some (n ∷ all)) (lined c f k) = rw is at h in
    (held c f k n all (stayed (n ∷ all) (lined c f k) h')).0

-- an output to which nothing was written yet
pub begins : (k : Option (List ℕ)) (c : ℕ) (f : Bool) → c ≡ 0 → f ≡ true → lined c f k ≡ lined 0 true k
begins k c f z y = ap (λ n. lined n f k) z ∙ ap (λ b. lined 0 b k) y

-- what the output holds after the bytes that were there
pub passed : (n : ℕ) (had : List ℕ) (old k : Option (List ℕ)) (c : ℕ) (f : Bool) (out : List ℕ) → old ≡ Some (n ∷ had)
    → Appends old (lined c f k) out → lined c f k ≡ Some (n ∷ (had ++ out))
passed n had old k c f out is a =
    let a' : Appends (Some (n ∷ had)) (lined c f k) out = rw is at a in
    came (n ∷ had) (lined c f k) out a'

-- what it holds once notices followed it, and it was flushed
pub told_after : (end : Standing) (notices : Bool) (all out : List ℕ) (k1 k2 k3 : Option (List ℕ)) (c1 c2 c3 : ℕ) (f1 f2 f3 : Bool)
    → lined c1 f1 k1 ≡ Some (length all ∷ (all ++ out)) → Tells notices end f1 (lined c1 f1 k1) (lined c2 f2 k2)
    → Keeps (lined c2 f2 k2) (lined c3 f3 k3) → k3 ≡ Some (all ++ with_asked notices end out)
told_after end notices all out k1 k2 k3 c1 c2 c3 f1 f2 f3 l1 t k =
    let line : f1 ≡ ends_line out = (held c1 f1 k1 (length all) (all ++ out) l1).1 ∙ ap ends_line (drop_at all out (length all) refl) in
    let a2 : Appends (Some (length all ∷ (all ++ out))) (lined c2 f2 k2) t.0 = rw l1 at t.1 in
    let l2 : lined c2 f2 k2 ≡ Some (length all ∷ ((all ++ out) ++ t.0)) = came (length all ∷ (all ++ out)) (lined c2 f2 k2) t.0 a2 in
    kept k3 c3 (length all) f3 ((all ++ out) ++ t.0) (lined c2 f2 k2) l2 k
    ∙ ap Some (append_assoc all out t.0 ∙ ap (λ l. all ++ l) (t.2 out line))

-- nothing came, and a flush kept what was there
pub nothing : (n : ℕ) (had : List ℕ) (a k3 : Option (List ℕ)) (c3 : ℕ) (f3 : Bool) → a ≡ Some (n ∷ had) → Keeps a (lined c3 f3 k3)
    → Keeps (Some had) k3
nothing n had a k3 c3 f3 is k =
    let h : k3 ≡ Some had = kept k3 c3 n f3 had a is k in
    rw h refl

module _ (host : Host) (echo : Bool) (known : Option (List ℕ)) (start end : Standing) where
  -- it is the same run where something else holds what was written
  over : (a b a' b' : Option (List ℕ)) (told : Bool) (r : Ran host echo known start end a b told) → Appends a' b' r.2.3.1.out
      → Ran host echo known start end a' b' told
  over a b a' b' told r p =
      let text = r.2 in
      (r.0, r.1, (text.0, text.1, text.2, (text.3.0, record { out = text.3.1.out; ran = text.3.1.ran; appends = p }, text.3.2)))

  pub follows : (notices : Bool) (k0 k1 k2 k3 : Option (List ℕ)) (c1 c2 c3 : ℕ) (f1 f2 f3 told : Bool) (status : ℕ)
      → Ran host echo known start end (lined 0 true k0) (lined c1 f1 k1) told → Tells notices end f1 (lined c1 f1 k1) (lined c2 f2 k2)
      → Keeps (lined c2 f2 k2) (lined c3 f3 k3) → (status ≡ status_of told) ⊎ (status ≡ fault_status)
      → RunsInput host echo notices known start end k0 k3 status
  follows notices None k1 k2 k3 c1 c2 c3 f1 f2 f3 told status r t k s =
      (None, inl (told, over None (lined c1 f1 k1) None None told r tt, elim s [ inl e ↦ inl (e, tt) | inr e ↦ inr (e, inr tt) ]))
  follows notices (Some all) k1 k2 k3 c1 c2 c3 f1 f2 f3 told status r t k s =
      let out = r.2.3.1.out in
      let l1 : lined c1 f1 k1 ≡ Some (length all ∷ (all ++ out)) =
      passed (length all) all (lined 0 true (Some all)) k1 c1 f1 out (new_lined all) r.2.3.1.appends in
      let new : k3 ≡ Some (all ++ with_asked notices end out) = told_after end notices all out k1 k2 k3 c1 c2 c3 f1 f2 f3 l1 t k in (
        Some (all ++ out),
        inl (
          told,
          over (lined 0 true (Some all)) (lined c1 f1 k1) (Some all) (Some (all ++ out)) told r refl,
          elim s [ inl e ↦ inl (e, (out, refl, new)) | inr e ↦ inr (e, only out notices new) ],
        ),
      )
    where
      only : (out : List ℕ) (asked : Bool) → k3 ≡ Some (all ++ with_asked asked end out) → (asked ≡ true) ⊎ Keeps (Some (all ++ out)) k3
      only out true h = inl refl
      only out false h = inr (rw h refl)

  -- what follows could not be written
  pub stops : (notices : Bool) (k0 k1 k3 : Option (List ℕ)) (c1 : ℕ) (f1 told : Bool) (status : ℕ)
      → Ran host echo known start end (lined 0 true k0) (lined c1 f1 k1) told → notices ≡ true → status ≡ fault_status
      → RunsInput host echo notices known start end k0 k3 status
  stops notices None k1 k3 c1 f1 told status r h s = (None, inl (told, over None (lined c1 f1 k1) None None told r tt, inr (s, inl h)))
  stops notices (Some all) k1 k3 c1 f1 told status r h s = (
    Some (all ++ r.2.3.1.out),
    inl (
      told,
      over (lined 0 true (Some all)) (lined c1 f1 k1) (Some all) (Some (all ++ r.2.3.1.out)) told r refl,
      inr (s, inl h),
    ),
  )

  -- a run that failed did so whatever is known of what was written
  pub fails_unknown : (a b : Option (List ℕ)) (e : RunFault) → RunFaults host echo known start end a b e
      → RunFaults host echo known start end None None e
  fails_unknown a b Read h = (h.0, refl)
  fails_unknown a b TooLong h = (h.0, refl, h.2)
  fails_unknown a b (Reader fault) h =
      let l = h.3 in
      (h.0, h.1, h.2, (l.0, l.1, record { out = l.2.out; ran = l.2.ran; appends = tt }, l.3, l.4))
  fails_unknown a b Write h = h
  fails_unknown a b Memory (inl h) = inl (h.0, refl)
  fails_unknown a b Memory (inr h) = let l = h.3 in inr (h.0, h.1, h.2, (l.0, l.1, l.2, l.3, l.4, tt))

  -- .. and as the writer holds what came, once that was flushed
  pub fails_on : (n : ℕ) (had : List ℕ) (a k1 k3 : Option (List ℕ)) (c1 c3 : ℕ) (f1 f3 : Bool) → a ≡ Some (n ∷ had) → (e : RunFault)
      → RunFaults host echo known start end a (lined c1 f1 k1) e → Keeps (lined c1 f1 k1) (lined c3 f3 k3)
      → (written : Option (List ℕ)) × RunFaults host echo known start end (Some had) written e × Keeps written k3
  fails_on n had a k1 k3 c1 c3 f1 f3 is Read h k = (Some had, (h.0, refl), nothing n had (lined c1 f1 k1) k3 c3 f3 (h.1 ∙ is) k)
  fails_on n had a k1 k3 c1 c3 f1 f3 is TooLong h k =
      (Some had, (h.0, refl, h.2), nothing n had (lined c1 f1 k1) k3 c3 f3 (h.1 ∙ is) k)
  fails_on n had a k1 k3 c1 c3 f1 f3 is (Reader fault) h k =
      let l = h.3 in
      let out = l.2.out in
      let l1 : lined c1 f1 k1 ≡ Some (n ∷ (had ++ out)) = passed n had a k1 c1 f1 out is l.2.appends in (
        Some (had ++ out),
        (h.0, h.1, h.2, (l.0, l.1, record { out = out; ran = l.2.ran; appends = refl }, l.3, l.4)),
        nothing n (had ++ out) (lined c1 f1 k1) k3 c3 f3 l1 k,
      )
  fails_on n had a k1 k3 c1 c3 f1 f3 is Write h k = (k3, h, stays k3)
  fails_on n had a k1 k3 c1 c3 f1 f3 is Memory (inl h) k =
      (Some had, inl (h.0, refl), nothing n had (lined c1 f1 k1) k3 c3 f3 (h.1 ∙ is) k)
  fails_on n had a k1 k3 c1 c3 f1 f3 is Memory (inr h) k =
      let l = h.3 in
      let l1 : lined c1 f1 k1 ≡ Some (n ∷ (had ++ l.2)) = passed n had a k1 c1 f1 l.2 is l.5 in (
        Some (had ++ l.2),
        inr (h.0, h.1, h.2, (l.0, l.1, l.2, l.3, l.4, refl)),
        nothing n (had ++ l.2) (lined c1 f1 k1) k3 c3 f3 l1 k,
      )

  pub fails : (notices : Bool) (k0 k1 k3 : Option (List ℕ)) (c1 c3 : ℕ) (f1 f3 : Bool) (status : ℕ)
      → Failed host echo known start end (lined 0 true k0) (lined c1 f1 k1) → Keeps (lined c1 f1 k1) (lined c3 f3 k3)
      → status ≡ fault_status
      → RunsInput host echo notices known start end k0 k3 status
  fails notices None k1 k3 c1 c3 f1 f3 status f k s = (None, inr (s, (f.0, fails_unknown None (lined c1 f1 k1) f.0 f.1), tt))
  fails notices (Some all) k1 k3 c1 c3 f1 f3 status f k s =
      let r = fails_on (length all) all (lined 0 true (Some all)) k1 k3 c1 c3 f1 f3 (new_lined all) f.0 f.1 k in
      (r.0, inr (s, (f.0, r.1), r.2))

  -- whatever came of the run and of what follows it
  pub comes : {W F : Type 0} (contents : W → Option (List ℕ)) (o0 o1 o2 o3 : Output W) (notices : Bool) (ran told : Result Bool F)
      (status : ℕ) → is_new o0 → IfOk ran (Ran host echo known start end (lined_of contents o0) (lined_of contents o1))
      → IfErr ran (λ _. Failed host echo known start end (lined_of contents o0) (lined_of contents o1))
      → IfOk ran (λ t. MatchResult told (λ r. (r ≡ t)
      × Tells notices end o1.fresh (lined_of contents o1) (lined_of contents o2)) (λ _. notices ≡ true))
      → IfErr ran (λ _. MatchResult told (λ _. ⊥) (λ _. o2 ≡ o1)) → Keeps (lined_of contents o2) (lined_of contents o3)
      → MatchResult told (λ t. (status ≡ status_of t) ⊎ (status ≡ fault_status)) (λ _. status ≡ fault_status)
      → RunsInput host echo notices known start end (contents o0.writer) (contents o3.writer) status
  comes contents o0 o1 o2 o3 notices (Ok t) (Ok r) status new a b h d k s =
      follows notices (contents o0.writer) (contents o1.writer) (contents o2.writer) (contents o3.writer) o1.count o2.count o3.count
      o1.fresh o2.fresh o3.fresh t status
      (subst (λ l. Ran host echo known start end l (lined_of contents o1) t) (begins (contents o0.writer) o0.count o0.fresh new.0 new.1) a)
      h.1 k (subst (λ x. (status ≡ status_of x) ⊎ (status ≡ fault_status)) h.0 s)
  comes contents o0 o1 o2 o3 notices (Ok t) (Err e) status new a b h d k s =
      stops notices (contents o0.writer) (contents o1.writer) (contents o3.writer) o1.count o1.fresh t status
      (subst (λ l. Ran host echo known start end l (lined_of contents o1) t) (begins (contents o0.writer) o0.count o0.fresh new.0 new.1) a)
      h s
  comes contents o0 o1 o2 o3 notices (Err e) (Ok r) status new a b h d k s = absurd d
  comes contents o0 o1 o2 o3 notices (Err e) (Err e') status new a b h d k s =
      fails notices (contents o0.writer) (contents o1.writer) (contents o3.writer) o1.count o3.count o1.fresh o3.fresh status
      (subst (λ l. Failed host echo known start end l (lined_of contents o1)) (begins (contents o0.writer) o0.count o0.fresh new.0 new.1) b)
      (subst (λ o. Keeps (lined_of contents o) (lined_of contents o3)) d k) s
