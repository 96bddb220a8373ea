-- A text gives one thing next.
use Rattle.std.proofs.Common.{◌≡◌, ◌≢◌, ◌∙◌, ℕ, List, [], refl, sym, ap, subst}
use Rattle.lisp_data.specs.Datum.{Dat}
use Rattle.lisp_reader.specs.Answers.{Next, NextFails, next, in_gaps, unfinished, in_datum, most_open, Outcome, nothing_left, a_datum, a_fault, Gives}
use Rattle.lisp_tokens.specs.Fault.{Kind, end_inside}
use Rattle.lisp_tokens.specs.Gaps.{Gaps, GapFails}
use Rattle.lisp_tokens.specs.Reading.{Spells, Fails}
use Rattle.lisp_reader.proofs.OneGap.{Gaps-unique, Gaps-clash, GapFails-unique}
use Rattle.lisp_reader.proofs.OneReading.{Spells-unique, spells-none, Fails-clash, Fails-unique}

nothing-datum : (text : List ℕ) (d : Dat) (rest : List ℕ) → Gaps text [] → Next text d rest → ⊥
nothing-datum text d rest gaps (next _ start _ _ g spells) =
    spells-none most_open d rest (subst (λ (t : List ℕ). Spells most_open t d rest) (Gaps-unique text [] start gaps g) spells)

nothing-fault : (text : List ℕ) (kind : Kind) (at : List ℕ) → Gaps text [] → NextFails text kind at → ⊥
nothing-fault text kind at gaps (in_gaps _ _ _ fails) = Gaps-clash text [] kind at gaps fails
nothing-fault text kind at gaps (unfinished _ start _ g some fails) = some (Gaps-unique text [] start gaps g)
nothing-fault text kind at gaps (in_datum _ start _ _ g some fails other) = some (Gaps-unique text [] start gaps g)

datum-fault : (text start : List ℕ) (d : Dat) (rest : List ℕ) (kind : Kind) (at : List ℕ) → Gaps text start → Spells most_open start d rest → NextFails text kind at → ⊥
datum-fault text start d rest kind at gaps spells (in_gaps _ _ _ fails) = Gaps-clash text start kind at gaps fails
datum-fault text start d rest kind at gaps spells (unfinished _ other to g some fails) =
    Fails-clash most_open other end_inside to d rest fails (subst (λ (t : List ℕ). Spells most_open t d rest) (Gaps-unique text other start g gaps) spells)
datum-fault text start d rest kind at gaps spells (in_datum _ other _ _ g some fails no_end) =
    Fails-clash most_open other kind at d rest fails (subst (λ (t : List ℕ). Spells most_open t d rest) (Gaps-unique text other start g gaps) spells)

datum-datum : (text start : List ℕ) (d : Dat) (rest : List ℕ) (e : Dat) (to : List ℕ) → Gaps text start → Spells most_open start d rest → Next text e to → (e ≡ d) × (to ≡ rest)
datum-datum text start d rest e to gaps spells (next _ other _ _ g more) =
    Spells-unique most_open start d rest e to spells (subst (λ (t : List ℕ). Spells most_open t e to) (Gaps-unique text start other gaps g) more)

gaps-fault : (text : List ℕ) (kind : Kind) (at : List ℕ) (other : Kind) (to : List ℕ) → GapFails text kind at → NextFails text other to → (other ≡ kind) × (to ≡ at)
gaps-fault text kind at other to mine (in_gaps _ _ _ more) = GapFails-unique text kind at other to mine more
gaps-fault text kind at other to mine (unfinished _ start _ g some fails) = absurd (Gaps-clash text start kind at g mine)
gaps-fault text kind at other to mine (in_datum _ start _ _ g some fails no_end) = absurd (Gaps-clash text start kind at g mine)

end-fault : (text start at : List ℕ) (other : Kind) (to : List ℕ) → Gaps text start → Fails most_open start end_inside at → NextFails text other to → (other ≡ end_inside) × (to ≡ start)
end-fault text start at other to gaps fails (in_gaps _ _ _ bad) = absurd (Gaps-clash text start other to gaps bad)
end-fault text start at other to gaps fails (unfinished _ _ x g some more) = (refl, Gaps-unique text start to gaps g)
end-fault text start at other to gaps fails (in_datum _ begin _ _ g some more no_end) =
    let more' = subst (λ (t : List ℕ). Fails most_open t other to) (Gaps-unique text start begin gaps g) more in
    absurd (no_end (Fails-unique most_open start end_inside at other to fails more').0)

inner-fault : (text start : List ℕ) (kind : Kind) (at : List ℕ) (other : Kind) (to : List ℕ) → Gaps text start → Fails most_open start kind at → kind ≢ end_inside → NextFails text other to → (other ≡ kind) × (to ≡ at)
inner-fault text start kind at other to gaps fails no_end (in_gaps _ _ _ bad) = absurd (Gaps-clash text start other to gaps bad)
inner-fault text start kind at other to gaps fails no_end (unfinished _ begin x g some more) =
    let more' = subst (λ (t : List ℕ). Fails most_open t end_inside x) (Gaps-unique text start begin gaps g) more in
    absurd (no_end (sym (Fails-unique most_open start kind at end_inside x fails more').0))
inner-fault text start kind at other to gaps fails no_end (in_datum _ begin _ _ g some more other_kind) =
    let more' = subst (λ (t : List ℕ). Fails most_open t other to) (Gaps-unique text start begin gaps g) more in
    Fails-unique most_open start kind at other to fails more'

fault-fault : (text : List ℕ) (kind : Kind) (at : List ℕ) (other : Kind) (to : List ℕ) → NextFails text kind at → NextFails text other to → (other ≡ kind) × (to ≡ at)
fault-fault text kind at other to (in_gaps _ _ _ fails) h = gaps-fault text kind at other to fails h
fault-fault text kind at other to (unfinished _ _ x g some fails) h = end-fault text at x other to g fails h
fault-fault text kind at other to (in_datum _ start _ _ g some fails no_end) h = inner-fault text start kind at other to g fails no_end h

next-datum : (text : List ℕ) (d : Dat) (rest : List ℕ) (e : Dat) (to : List ℕ) → Next text d rest → Next text e to → (e ≡ d) × (to ≡ rest)
next-datum text d rest e to (next _ start _ _ g spells) h = datum-datum text start d rest e to g spells h

next-fault : (text : List ℕ) (d : Dat) (rest : List ℕ) (kind : Kind) (at : List ℕ) → Next text d rest → NextFails text kind at → ⊥
next-fault text d rest kind at (next _ start _ _ g spells) h = datum-fault text start d rest kind at g spells h

same-datum : (d e : Dat) (rest to : List ℕ) → (e ≡ d) × (to ≡ rest) → a_datum e to ≡ a_datum d rest
same-datum d e rest to p = ap (λ (x : Dat). a_datum x to) p.0 ∙ ap (a_datum d) p.1

same-fault : (kind other : Kind) (at to : List ℕ) → (other ≡ kind) × (to ≡ at) → a_fault other to ≡ a_fault kind at
same-fault kind other at to p = ap (λ (x : Kind). a_fault x to) p.0 ∙ ap (a_fault kind) p.1

pub Gives-unique : (text : List ℕ) (one other : Outcome) → Gives text one → Gives text other → other ≡ one
Gives-unique text nothing_left nothing_left g h = refl
Gives-unique text nothing_left (a_datum d rest) g h = absurd (nothing-datum text d rest g h)
Gives-unique text nothing_left (a_fault kind at) g h = absurd (nothing-fault text kind at g h)
Gives-unique text (a_datum d rest) nothing_left g h = absurd (nothing-datum text d rest h g)
Gives-unique text (a_datum d rest) (a_datum e to) g h = same-datum d e rest to (next-datum text d rest e to g h)
Gives-unique text (a_datum d rest) (a_fault kind at) g h = absurd (next-fault text d rest kind at g h)
Gives-unique text (a_fault kind at) nothing_left g h = absurd (nothing-fault text kind at h g)
Gives-unique text (a_fault kind at) (a_datum d rest) g h = absurd (next-fault text d rest kind at h g)
Gives-unique text (a_fault kind at) (a_fault other to) g h = same-fault kind other at to (fault-fault text kind at other to g h)
