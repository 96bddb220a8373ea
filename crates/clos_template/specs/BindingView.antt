-- The clauses and lambda expressions that the code's stand for.
use Rattle.lisp_data.specs.DatumView.{datum_of}
use Rattle.clos_template.specs.Shape as of
use Rattle.clos_template.specs.declared.binding.Clause.{Clause}
use Rattle.clos_template.specs.declared.binding.Lambda.{Lambda}

-- the same variable, with the datum to which the code refers as the body
abbrev pub lambda_of : Lambda → of.Lambda
lambda_of f = record { variable = f.variable; body = datum_of f.body.now }

-- the test and the clause to which the code refers, with the same flag
abbrev pub clause_of : Clause → of.Clause
clause_of c = record { test = datum_of c.test.now; whole = datum_of c.whole.now; has_body = c.has_body }
