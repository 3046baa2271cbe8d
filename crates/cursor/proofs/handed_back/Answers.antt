-- `cursor::handed_back` meets its contract. Assumes nothing.
use Rattle.cursor.proofs.Zeros.{answer_zeros}
use Rattle.cursor.proofs.handed_back.Goals as goal

pub returns-in-Err : goal.returns-in-Err
returns-in-Err c =
    let zeros = answer_zeros c.default.result c.default.ensures in
    let number = c.number.ensures in
    rw c.in-Err.is (λ i. record { cursor = c.args.w; answer = record (zeros i) { refusal = number i } })
