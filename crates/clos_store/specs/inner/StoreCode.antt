-- How the logic stores what the store has.
use Rattle.std.specs.Prelude.{ℕ, List, Option, refl}
use Rattle.std.specs.Coded.{Coded, code_by, coded×, coded_list, coded_option, coded_ℕ}
use Rattle.lisp_data.specs.Name.{Name}
use Rattle.lisp_data.specs.inner.NameCode.{name_code}
use Rattle.lisp_data.specs.Value.{Val}
use Rattle.lisp_data.specs.inner.ValueCode.{value_code}
use Rattle.lisp_data.specs.declared.ids.CellId.{CellId}
use Rattle.clos_store.specs.Store.{Slots, Object, Contents, Held}

abbrev cell_code : Coded CellId
cell_code = code_by ℕ coded_ℕ (λ c. c.0) (λ n. record { 0 = n }) (λ _. refl)

abbrev pub object_code : Coded Object
object_code =
    code_by (ℕ × (Slots × List (Name × CellId)))
    (coded× coded_ℕ (coded× (coded_list (coded× name_code (coded_option value_code))) (coded_list (coded× name_code cell_code))))
    (λ o. (o.class, (o.slots, o.shared))) (λ p. record { class = p.0; slots = p.1.0; shared = p.1.1 }) (λ _. refl)

abbrev pub contents_code : Coded Contents
contents_code =
    code_by (List Object × (List (Option Val) × (ℕ × ℕ)))
    (coded× (coded_list object_code) (coded× (coded_list (coded_option value_code)) (coded× coded_ℕ coded_ℕ)))
    (λ w. (w.instances, (w.cells, (w.most_instances, w.most_cells))))
    (λ p. record { instances = p.0; cells = p.1.0; most_instances = p.1.1.0; most_cells = p.1.1.1 })
    (λ _. refl)

abbrev pub held_code : Coded Held
held_code = code_by (Contents × ℕ) (coded× contents_code coded_ℕ) (λ h. (h.contents, h.reserved)) (λ p. record { contents = p.0; reserved = p.1 }) (λ _. refl)
