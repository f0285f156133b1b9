-- `certificate_cases::solves::write_solution` meets its contract: the lent memory is enough, and what is written is compared with the head.
-- Assumes nothing.
use Rattle.solve_text.proofs.Answers.{enough}
use Rattle.certificate_cases.proofs.solves.write_solution.Goals as goal

pub returns : goal.returns
returns c =
    let memory = enough c.args.plan.now c.large_buffer-work.ensures c.large_buffer-certificate.ensures in
    record {
      before = c.large_buffer-certificate.result;
      after = c.put_certificate-n.new.out;
      size = c.put_certificate-n.result;
      written = rw memory at c.put_certificate-n.ensures.puts;
      begins = c.write_comparison.ensures;
    }
