use Rattle.save_texts.proofs.OneFault.{one_fault, saved_or_faulty, table_line_once}
use Rattle.save_texts.proofs.laws.texts_are_saved_or_faulty.Goals as goal

pub returns : goal.returns
returns c =
    let listed = c.bytes_have_one_reading.ensures in
    let lines = c.bytes_have_one_reading-2.ensures in
    let program = c.bytes_have_one_program.ensures in
    let typed = c.what_is_written_is_read.ensures.typed in
    let grids = c.grids_have_one_reading.ensures in
    record {
      saved = λ bytes code grid why is explains.
          saved_or_faulty listed.lines listed.apart lines.lines lines.apart program.program program.table typed grids.apart bytes code grid why is explains;
      once = λ bytes one other some also is so.
          one_fault listed.lines listed.apart lines.lines lines.apart program.program program.table typed grids.apart
          listed.fault lines.fault (table_line_once listed.lines) grids.left bytes one other some also is so;
    }
