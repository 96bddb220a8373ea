-- What the program's dependents heard, as it is written after the last file.
use Rattle.std.specs.Prelude.{◌≡◌, ℕ, Bool, true, false, List, [], ◌∷◌, ◌++◌, Option, Some, None, codes, ⊤, option_map, slice_get, unwrap_or}
use Rattle.std.specs.List.{flat_map}
use Rattle.lisp_data.specs.Name.{Name}
use Rattle.clos_ending.specs.clos_system.clos_transcript.Told.{fresh_line}
use Rattle.clos_ending.specs.clos_system.clos_session.Notices.{notice_text}
use Rattle.clos_ending.specs.clos_system.clos_session.Session.{Standing}
use Rattle.clos_ending.specs.clos_system.clos_session.clos_watch.Handed.{place_of}
use Rattle.clos_ending.specs.clos_system.clos_session.clos_watch.declared.notice.Notice.{Notice}
use Rattle.clos_ending.specs.clos_system.clos_world.World.{State}

-- what the dependent of a name has heard
abbrev pub heard_of : Standing → Name → List Notice
heard_of s name = unwrap_or (option_map (λ p. unwrap_or (slice_get s.heard p) []) (place_of s.state.hearing.names name)) []

-- the line of a notice: the dependent's name, and what it heard
abbrev pub notice_line : State → Name → Notice → List ℕ
notice_line w name n = codes "; " ++ name.text ++ (32 ∷ []) ++ notice_text w n ++ (10 ∷ [])

-- those of all that it heard
abbrev pub notice_lines : Standing → Name → List ℕ
notice_lines s name = flat_map (notice_line s.state name) (heard_of s name)

-- the dependents of the program
abbrev pub audit : Name
audit = record { text = codes "AUDIT"; keyword = false }

abbrev pub second : Name
second = record { text = codes "SECOND"; keyword = false }

-- lines on a fresh line, if there are any
abbrev pub follow : List ℕ → List ℕ → List ℕ
follow out [] = out
follow out (b ∷ bs) = fresh_line out ++ (b ∷ bs)

-- what is written, and then what AUDIT and SECOND heard
abbrev pub with_notices : Standing → List ℕ → List ℕ
with_notices s out = follow out (notice_lines s audit ++ notice_lines s second)

-- .. where that is asked for
abbrev pub with_asked : Bool → Standing → List ℕ → List ℕ
with_asked false s out = out
with_asked true s out = with_notices s out

-- What is held has grown by what was written and then, where they are asked for, by the notices.
abbrev pub Follow : Bool → Standing → Option (List ℕ) → Option (List ℕ) → Option (List ℕ) → Type 0
Follow notices s None written new = ⊤
Follow notices s (Some held) written new =
    (out : List ℕ) × (written ≡ Some (held ++ out)) × (new ≡ Some (held ++ with_asked notices s out))
