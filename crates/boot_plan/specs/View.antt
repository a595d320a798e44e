-- The program's forms and entries as those of the format.
use Rattle.std.specs.Prelude.{ℕ, List}
use Rattle.boot_plan.specs.{declared.form.Form.Form, declared.entry.Entry.Entry as Kept}
use Rattle.boot_plan.specs.declared.form.Form.TheVariants as form
use Rattle.boot_plan.specs.declared.entry.Entry.TheVariants as kept
use Rattle.boot_plan.specs.Entry.{Entry, Temp, Ram, Volume, Fuel, Pages}

-- an entry whose numbers are words
abbrev pub form_view : Form → Entry (List ℕ)
form_view (form.Temp base size) = Temp base.now size.now
form_view (form.Ram base size) = Ram base.now size.now
form_view (form.Volume base name) = Volume base.now name.now
form_view (form.Fuel count) = Fuel count.now
form_view (form.Pages size) = Pages size.now

-- an entry whose numbers are read
abbrev pub entry_view : Kept → Entry ℕ
entry_view (kept.Temp base size) = Temp base size
entry_view (kept.Ram base size) = Ram base size
entry_view (kept.Volume base name) = Volume base name.now
entry_view (kept.Fuel count) = Fuel count
entry_view (kept.Pages size) = Pages size
