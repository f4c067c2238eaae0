-- What a source and a sink in memory hold.
use Rattle.std.specs.Prelude.{ℕ, List, [], drop}
use Rattle.mass_outside.specs.declared.mem_streams.MemSource.{MemSource}
use Rattle.mass_outside.specs.declared.mem_streams.MemSink.{MemSink}
use Rattle.mass_outside.specs.declared.mem_streams.SureSource.{SureSource}
use Rattle.mass_outside.specs.declared.mem_streams.SureSink.{SureSink}

abbrev pub left_of : MemSource → List ℕ
left_of source = drop source.at source.bytes.items

abbrev pub taken_of : MemSink → List ℕ
taken_of sink = sink.bytes.items

abbrev pub sure_left : SureSource → List ℕ
sure_left source = drop source.at source.bytes.items

-- a sink that keeps nothing
abbrev pub none_kept : SureSink → List ℕ
none_kept sink = []
