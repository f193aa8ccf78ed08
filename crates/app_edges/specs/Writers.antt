-- What contracts see of a sink over a writer.
use Rattle.std.specs.Prelude.{ℕ}
use Rattle.app_edges.specs.declared.std_sink.StdSink.{StdSink}

-- the writer
abbrev pub writer_of : {T : Type 0} → StdSink T → T
writer_of sink = sink.writer

-- how often it has failed
abbrev pub faults_of : {T : Type 0} → StdSink T → ℕ
faults_of sink = sink.faults
