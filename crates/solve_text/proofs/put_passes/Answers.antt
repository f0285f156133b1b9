-- Two large buffers are memory enough.
use Rattle.solve_text.proofs.Answers.{enough}
use Rattle.solve_text.proofs.put_passes.Goals as goal

pub returns : goal.returns
returns c =
    let memory = enough c.args.plan.now c.large_buffer-work.ensures c.large_buffer-certificate.ensures in
    record { puts = rw memory at c.put_passes_in.ensures.puts; prefix_len = c.put_passes_in.ensures.prefix_len }
