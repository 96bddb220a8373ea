use Rattle.std.proofs.Common.{◌≡◌, ◌+◌, ◌*◌, ◌≤◌, ℕ, List, [], drop, length, map, take}
use Rattle.lisp_data.specs.Datum.{Dat, size_of_data}
use Rattle.lisp_data.specs.DatumView.{datum_of}
use Rattle.clos_forms.specs.BoundView.{bound}
use Rattle.clos_template.specs.Expansion.{Expansion}
use Rattle.clos_template.specs.Meaning.{aside, clauses, gather, in_order, mapped, meanings, part, sequence, until}
use Rattle.clos_template.specs.Template.{size_of_template, size_of_templates}
use Rattle.clos_template.proofs.expansion.+expand.Given as goal

-- what is expanded gets smaller, or its parts are gone through
abbrev pub decreases-expand : goal.decreases-expand
decreases-expand l = 2 * size_of_template l.template.now

abbrev pub decreases-part : goal.decreases-part
decreases-part l = 2 * size_of_templates l.parts.now

abbrev pub decreases-sequence : goal.decreases-sequence
decreases-sequence l = 2 * size_of_templates l.parts.now

abbrev pub decreases-until : goal.decreases-until
decreases-until l = 2 * size_of_templates l.parts.now

abbrev pub decreases-gather : goal.decreases-gather
decreases-gather l = 2 * size_of_templates l.parts.now

abbrev pub decreases-clauses : goal.decreases-clauses
decreases-clauses l = 2 * size_of_templates l.parts.now + 1

abbrev pub decreases-aside : goal.decreases-aside
decreases-aside l = 2 * size_of_templates l.parts.now + 1

abbrev pub decreases-in_order : goal.decreases-in_order
decreases-in_order l = 2 * size_of_templates l.parts.now + 1

abbrev pub decreases-map_list : goal.decreases-map_list
decreases-map_list l = 2 * size_of_templates l.parts.now + 1

-- ---- what is left of the parts gives what all would

abbrev pub invariant-part-loop-first : goal.invariant-part-loop-first
invariant-part-loop-first l =
    (part (meanings l.rest) l.place l.scope l.left ≡ part (meanings l.parts) l.fn.place l.fn.scope l.fn.left)
    × (l.scope ≡ l.fn.scope) × (size_of_templates l.rest ≤ size_of_templates l.parts)

abbrev pub decreases-part-loop-first : goal.decreases-part-loop-first
decreases-part-loop-first l = size_of_templates l.rest

abbrev pub invariant-sequence-loop-first : goal.invariant-sequence-loop-first
invariant-sequence-loop-first l =
    (sequence (meanings l.rest) (datum_of l.value) l.scope l.left ≡ sequence (meanings l.parts) (datum_of l.fn.datum) l.fn.scope l.fn.left)
    × (l.scope ≡ l.fn.scope) × (size_of_templates l.rest ≤ size_of_templates l.parts)

abbrev pub decreases-sequence-loop-first : goal.decreases-sequence-loop-first
decreases-sequence-loop-first l = size_of_templates l.rest

abbrev pub invariant-until-loop-first : goal.invariant-until-loop-first
invariant-until-loop-first l =
    (until l.stop (meanings l.rest) (datum_of l.value) l.scope l.left ≡ until l.stop (meanings l.parts) (datum_of l.fn.datum) l.fn.scope l.fn.left)
    × (l.scope ≡ l.fn.scope) × (size_of_templates l.rest ≤ size_of_templates l.parts)

abbrev pub decreases-until-loop-first : goal.decreases-until-loop-first
decreases-until-loop-first l = size_of_templates l.rest

abbrev pub invariant-clauses-loop-has_body : goal.invariant-clauses-loop-has_body
invariant-clauses-loop-has_body l =
    (clauses (drop l.has_body-index l.bodies) (meanings l.rest) l.scope l.left ≡ clauses l.bodies (meanings l.parts) l.fn.scope l.fn.left)
    × (l.scope ≡ l.fn.scope) × (size_of_templates l.rest ≤ size_of_templates l.parts)

abbrev pub invariant-aside-loop-binding : goal.invariant-aside-loop-binding
invariant-aside-loop-binding l =
    (aside (map bound (drop l.binding-index l.bindings)) (meanings l.rest) l.new l.scope l.left ≡ aside (map bound l.bindings) (meanings l.parts) [] l.fn.scope l.fn.left)
    × (l.scope ≡ l.fn.scope) × (size_of_templates l.rest ≤ size_of_templates l.parts)

abbrev pub invariant-in_order-loop-binding : goal.invariant-in_order-loop-binding
invariant-in_order-loop-binding l =
    (in_order (map bound (drop l.binding-index l.bindings)) (meanings l.rest) l.scope l.left ≡ in_order (map bound l.bindings) (meanings l.parts) l.fn.scope l.fn.left)
    × (take l.outer l.scope ≡ l.fn.scope) × (l.outer ≤ length l.scope) × (size_of_templates l.rest ≤ size_of_templates l.parts)

abbrev pub invariant-map_list-loop-first : goal.invariant-map_list-loop-first
invariant-map_list-loop-first l =
    (mapped l.name (part (meanings l.parts) 1) l.scope l.rest (map datum_of l.«data».items) l.left ≡ mapped l.name (part (meanings l.parts) 1) l.fn.scope l.initial.rest [] l.initial.left)
    × (l.scope ≡ l.fn.scope) × (l.outer ≡ length l.fn.scope)

abbrev pub decreases-map_list-loop-first : goal.decreases-map_list-loop-first
decreases-map_list-loop-first l = size_of_data l.rest

abbrev pub invariant-gather-loop-first : goal.invariant-gather-loop-first
invariant-gather-loop-first l =
    ((go : List Dat → ℕ → Expansion) → gather l.flags (meanings l.rest) l.scope (map datum_of l.«data».items) go l.left ≡ gather l.spliced (meanings l.parts) l.fn.scope [] go l.fn.left)
    × (l.scope ≡ l.fn.scope) × (size_of_templates l.rest ≤ size_of_templates l.parts)

abbrev pub decreases-gather-loop-first : goal.decreases-gather-loop-first
decreases-gather-loop-first l = size_of_templates l.rest
