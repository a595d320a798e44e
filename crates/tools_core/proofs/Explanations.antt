-- The text of a boot that is explained, of its parts.
use Rattle.std.proofs.Common.{◌≡◌, ◌++◌, ℕ, List, Result, Ok, Err, IfOk}
use Rattle.mod_catalog.specs.declared.catalogue.Catalog.{Catalog}
use Rattle.explain_text.specs.{declared.reasons.Explained.Explained, Lines.IsCatalogText, Text.explained_text}
use Rattle.tools_core.specs.ExplainReport.{IsExplanation}

pub run_behind : {E : Type 0} (Run : Explained → Type 0) (images : List (List ℕ)) (catalog : Catalog) (front : List ℕ) (explained : Explained) (result : Result (List ℕ) E) → IsCatalogText catalog.volumes images catalog.modules front → Run explained
    → IfOk result (λ text. text ≡ front ++ explained_text catalog.modules explained) → IfOk result (IsExplanation Run images catalog)
run_behind Run images catalog front explained (Ok text) catalogue run is = record { front = front; catalogue = catalogue; explained = explained; run = run; is = is }
run_behind Run images catalog front explained (Err e) catalogue run is = tt
