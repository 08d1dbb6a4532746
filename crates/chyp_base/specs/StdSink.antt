-- What a sink over a writer of std shows.
use Rattle.chyp_base.specs.declared.std_sink.StdSink.{StdSink}

-- the writer that the bytes are handed to
abbrev pub writer : {W : Type 0} → StdSink W → W
writer s = s.inner
