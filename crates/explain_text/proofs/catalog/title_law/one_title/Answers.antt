use Rattle.explain_text.specs.{File.file_body, Title.file_of}
use Rattle.explain_text.proofs.OneTitle.{one_of}
use Rattle.explain_text.proofs.catalog.title_law.one_title.Goals as goal

pub returns : goal.returns
returns c = λ volumes images m a b x y. one_of c.one_reading.ensures.sections c.one_reading.ensures.apart (file_body (file_of volumes images m)) a b x y
