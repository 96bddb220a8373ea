use Rattle.top_tests.proofs.positions.+tell_forms.Given as goal

-- the parts of a form nest one level less
abbrev pub decreases-tell_forms : goal.decreases-tell_forms
decreases-tell_forms l = l.depth
