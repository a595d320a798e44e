-- What the images of a plan lead to: the refusal of their first fault, or what their catalogue leads to.
use Rattle.std.specs.Prelude.{◌≡◌, ℕ, List, Some}
use Rattle.boot_plan.specs.declared.plan.Plan.{Plan}
use Rattle.mod_catalog.specs.{declared.catalogue.Catalog.Catalog, declared.image_fault.ImageFault.ImageFault, Catalogue.IsCatalogue}
use Rattle.mod_catalog.specs.ImageFault.{IsImageFault}
use Rattle.boot_model.specs.{declared.line.RunEnd.RunEnd, PlanBoard.board_of, Text.line_text}
use Rattle.boot_core.specs.declared.status.Status.{Status}
use Rattle.boot_core.specs.declared.status.Status.TheVariants.{Done, ImageRefused}
use Rattle.boot_core.specs.declared.command_line.Command.{Command}
use Rattle.boot_core.specs.declared.command_line.Command.TheVariants.{Boot, Audit}
use Rattle.boot_core.specs.{AuditText.audit_text, BootEnd.status_of, WholeEnd.end_of, WholeEnd.boot_text, Refusing.image_line}

-- what a boot leads to: its result and its whole text, by the plan's board
pub record BootOutcome (plan : Plan) (catalog : Catalog) (images : List (List ℕ)) (status : Status) (text : List ℕ) : Type 0 where
  pub end : RunEnd
  pub ended : end_of (board_of plan catalog images) catalog plan.fuel ≡ Some end
  pub status_is : status ≡ status_of end
  pub text_is : text ≡ boot_text (board_of plan catalog images) catalog plan.fuel

-- what an audit leads to
pub record AuditOutcome (catalog : Catalog) (status : Status) (text : List ℕ) : Type 0 where
  pub status_is : status ≡ Done
  pub text_is : text ≡ audit_text catalog

-- what a command leads to over a catalogue
abbrev pub CommandOutcome : Command → Plan → List (List ℕ) → Catalog → Status → List ℕ → Type 0
CommandOutcome Audit plan images catalog status text = AuditOutcome catalog status text
CommandOutcome Boot plan images catalog status text = BootOutcome plan catalog images status text

-- what images lead to, where a catalogue leads to this
pub data ImagesOutcome (Leads : Catalog → Status → List ℕ → Type 0) (plan : Plan) (images : List (List ℕ)) (status : Status) (text : List ℕ) : Type 0 where
  image_refused : (fault : ImageFault) → IsImageFault plan images fault → status ≡ ImageRefused → text ≡ line_text (image_line fault) → ImagesOutcome Leads plan images status text
  images_sound : (catalog : Catalog) → IsCatalogue plan images catalog → Leads catalog status text → ImagesOutcome Leads plan images status text
