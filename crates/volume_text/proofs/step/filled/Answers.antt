use Rattle.volume_text.specs.Step.{section_of}
use Rattle.volume_text.proofs.Ending.{topped, topped_said, nested_said, filling_said, depex_said, closed_said}
use Rattle.volume_text.proofs.step.filled.Goals as goal

pub returns-in-Volume-clause-said : goal.returns-in-Volume-clause-said
returns-in-Volume-clause-said c = nested_said c.args.below c.args.top c.in-Volume.form c.in-Volume.len c.nested.result c.nested.ensures

pub returns-in-Name-clause-made : goal.returns-in-Name-clause-made
returns-in-Name-clause-made c = rw (c.filling_with.ensures, c.in-Name.is) (topped c.args.below c.with_name.result _ c.with_name.ensures)

pub returns-in-Name-clause-said : goal.returns-in-Name-clause-said
returns-in-Name-clause-said c = rw c.filling_with.ensures (topped_said c.args.below c.with_name.result)

pub returns-in-Pad-clause-made : goal.returns-in-Pad-clause-made
returns-in-Pad-clause-made c = rw (c.filling_with-in-Pad.ensures, c.in-Pad.is) (topped c.args.below c.with_pad.result _ c.with_pad.ensures)

pub returns-in-Pad-clause-said : goal.returns-in-Pad-clause-said
returns-in-Pad-clause-said c = rw c.filling_with-in-Pad.ensures (topped_said c.args.below c.with_pad.result)

pub returns-in-File-clause-made : goal.returns-in-File-clause-made
returns-in-File-clause-made c = rw (c.filling_with-in-File.ensures, c.in-File.is) (topped c.args.below c.with_file.result _ c.with_file.ensures)

pub returns-in-File-clause-said : goal.returns-in-File-clause-said
returns-in-File-clause-said c = rw c.filling_with-in-File.ensures (topped_said c.args.below c.with_file.result)

pub returns-in-Body-clause-made : goal.returns-in-Body-clause-made
returns-in-Body-clause-made c = rw (c.filling_with-in-Body.ensures, c.in-Body.is) (topped c.args.below c.with_last_body.result _ c.with_last_body.ensures)

pub returns-in-Body-clause-said : goal.returns-in-Body-clause-said
returns-in-Body-clause-said c = rw c.filling_with-in-Body.ensures (topped_said c.args.below c.with_last_body.result)

pub returns-in-Section-clause-said : goal.returns-in-Section-clause-said
returns-in-Section-clause-said c = filling_said c.args.below c.args.top (section_of c.in-Section.kind c.in-Section.body) c.filling.result c.filling.ensures

pub returns-in-Depex-clause-said : goal.returns-in-Depex-clause-said
returns-in-Depex-clause-said c = depex_said c.args.below c.args.top c.in-Depex.phase c.in-Depex.body c.with_depex.result c.with_depex.ensures

pub returns-in-End-clause-said : goal.returns-in-End-clause-said
returns-in-End-clause-said c = closed_said c.args.below c.args.top c.closed.result c.closed.ensures
