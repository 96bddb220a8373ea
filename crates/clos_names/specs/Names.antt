-- The names that the language gives a meaning (HyperSpec 1.9).
use Rattle.std.specs.Prelude.{ℕ, List, [], ◌∷◌, Bool, not, ◌&&◌, ◌||◌, codes}
use Rattle.std.specs.Str.{bytes_eq}
use Rattle.std.specs.List.{list_any}
use Rattle.lisp_data.specs.Name.{Name}

-- forms that stand at the top level alone
abbrev pub definitions : List (List ℕ)
definitions =
    codes "DEFCLASS" ∷ codes "DEFGENERIC" ∷ codes "DEFMETHOD" ∷ codes "DEFINE-METHOD-COMBINATION" ∷ codes "DEFUN" ∷ codes "DEFVAR" ∷ codes "DEFPARAMETER"
    ∷ codes "REMOVE-METHOD" ∷ codes "ADD-DEPENDENT" ∷ codes "REMOVE-DEPENDENT" ∷ codes "IN-PACKAGE" ∷ []

-- functions
abbrev pub functions : List (List ℕ)
functions =
    codes "+" ∷ codes "*" ∷ codes "-" ∷ codes "MAX" ∷ codes "MIN" ∷ codes "1+" ∷ codes "1-" ∷ codes "ABS" ∷ codes "ZEROP" ∷ codes "PLUSP" ∷ codes "MINUSP"
    ∷ codes "EVENP" ∷ codes "ODDP" ∷ codes "FLOOR" ∷ codes "TRUNCATE" ∷ codes "MOD" ∷ codes "REM" ∷ codes "=" ∷ codes "<" ∷ codes ">" ∷ codes "<="
    ∷ codes ">=" ∷ codes "NOT" ∷ codes "NULL" ∷ codes "EQ" ∷ codes "EQL" ∷ codes "EQUAL" ∷ codes "ATOM" ∷ codes "CONSP" ∷ codes "LISTP" ∷ codes "SYMBOLP"
    ∷ codes "INTEGERP" ∷ codes "STRINGP" ∷ codes "CAR" ∷ codes "CDR" ∷ codes "FIRST" ∷ codes "SECOND" ∷ codes "THIRD" ∷ codes "REST" ∷ codes "NTH"
    ∷ codes "CONS" ∷ codes "LIST" ∷ codes "LIST*" ∷ codes "APPEND" ∷ codes "NCONC" ∷ codes "REVERSE" ∷ codes "LENGTH" ∷ codes "PRINC" ∷ codes "PRIN1"
    ∷ codes "PRINT" ∷ codes "TERPRI" ∷ codes "CLASS-OF" ∷ codes "CLASS-NAME" ∷ codes "CLASS-PRECEDENCE-LIST" ∷ codes "FIND-CLASS" ∷ codes "TYPEP"
    ∷ codes "FIND-METHOD" ∷ codes "MAKE-INSTANCE" ∷ codes "CHANGE-CLASS" ∷ codes "SLOT-VALUE" ∷ codes "SLOT-BOUNDP" ∷ codes "SLOT-MAKUNBOUND"
    ∷ codes "SLOT-EXISTS-P" ∷ codes "NATIVE-CALL" ∷ []

-- generic functions of the system
abbrev pub system_functions : List (List ℕ)
system_functions =
    codes "INITIALIZE-INSTANCE" ∷ codes "REINITIALIZE-INSTANCE" ∷ codes "SHARED-INITIALIZE" ∷ codes "UPDATE-INSTANCE-FOR-REDEFINED-CLASS"
    ∷ codes "UPDATE-INSTANCE-FOR-DIFFERENT-CLASS" ∷ codes "SLOT-UNBOUND" ∷ codes "SLOT-MISSING" ∷ codes "NO-APPLICABLE-METHOD" ∷ codes "NO-NEXT-METHOD" ∷ []

-- functions on which there are no methods of the user's
abbrev pub closed_functions : List (List ℕ)
closed_functions = codes "PRINT-OBJECT" ∷ codes "ALLOCATE-INSTANCE" ∷ []

-- whether the name is one of these, and no keyword
abbrev pub is_one_of : List (List ℕ) → Name → Bool
is_one_of texts name = not name.keyword && list_any (λ t. bytes_eq t name.text) texts

abbrev pub is_called : List ℕ → Name → Bool
is_called text name = not name.keyword && bytes_eq name.text text

-- NIL, T and keywords are their own values (3.1.2.1.3)
abbrev pub is_constant : Name → Bool
is_constant name = name.keyword || is_called (codes "T") name || is_called (codes "NIL") name
