use Rattle.std.proofs.Common.{◌+◌, ◌*◌, map, take}
use Rattle.volume_print.specs.{Description.section_in, Description.IsInner, Finding.AddsSections, Finding.AddsFiles}
use Rattle.volume_print.proofs.tree.+tree.Given as goal

-- a level has eight calls
abbrev pub decreases-nested_text : goal.decreases-nested_text
decreases-nested_text l = 8 * l.deep

abbrev pub decreases-form_of : goal.decreases-form_of
decreases-form_of l = 8 * l.deep + 1

abbrev pub decreases-put_section : goal.decreases-put_section
decreases-put_section l = 8 * l.deep + 2

abbrev pub decreases-put_sections : goal.decreases-put_sections
decreases-put_sections l = 8 * l.deep + 3

abbrev pub decreases-put_body : goal.decreases-put_body
decreases-put_body l = 8 * l.deep + 4

abbrev pub decreases-put_file : goal.decreases-put_file
decreases-put_file l = 8 * l.deep + 5

abbrev pub decreases-put_files : goal.decreases-put_files
decreases-put_files l = 8 * l.deep + 6

abbrev pub decreases-text_by : goal.decreases-text_by
decreases-text_by l = 8 * l.deep + 7

-- the texts of the sections so far
abbrev pub invariant-put_sections-sections : goal.invariant-put_sections-sections
invariant-put_sections-sections l = AddsSections (IsInner l.deep) l.host (map (section_in l.stream) (take l.place l.sections)) l.fn.out l.out

-- the texts of the files so far
abbrev pub invariant-put_files-files : goal.invariant-put_files-files
invariant-put_files-files l = AddsFiles (IsInner l.deep) l.file_system l.bytes (take l.file-index l.files) l.fn.from l.next l.fn.out l.out
