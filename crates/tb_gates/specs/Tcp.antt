-- The adapters over sockets and the system's clock, as contracts see them: they tell no bytes, links or moments.
use Rattle.std.specs.Prelude.{None}
use Rattle.tb_link.specs.Sources.{SourceState}
use Rattle.tb_link.specs.Sinks.{SinkState}
use Rattle.tb_gates.specs.declared.tcp.TcpConn.{TcpConn}
use Rattle.tb_gates.specs.declared.tcp.TcpGate.{TcpGate}
use Rattle.tb_gates.specs.declared.system.SystemClock.{SystemClock}
use Rattle.tb_gates.specs.Clocks.{ClockState}
use Rattle.tb_gates.specs.Gates.{GateState}

abbrev pub conn_source : TcpConn → SourceState
conn_source c = record { left = None; faults = c.read_faults.count; reads = c.reads }

abbrev pub conn_sink : TcpConn → SinkState
conn_sink c = record { taken = None; faults = c.write_faults.count }

abbrev pub tcp_gate : TcpGate → GateState TcpConn
tcp_gate g = record { left = None; back = None; given = g.given; faults = g.faults.count }

abbrev pub system_clock : {R : Type 0} → SystemClock R → ClockState
system_clock c = record { reading = c.last.seconds; readings = c.readings; moments = None }
