-- A segment that is read, in the words of a flow's story.
use Rattle.tcp_segment.specs.Tcp.{Tcp, has}
use Rattle.tcp_segment.specs.declared.TheConstants.{SYN, FIN, RST, ACK}
use Rattle.spec_flow.specs.Event.{Segment}

-- what a flow's story has of a segment (RFC 9293, 3.1)
abbrev pub segment_of : Tcp → Segment
segment_of tcp = record {
  number = tcp.seq;
  acknowledgement = tcp.ack;
  ack = has ACK tcp.flags;
  syn = has SYN tcp.flags;
  rst = has RST tcp.flags;
  fin = has FIN tcp.flags;
  window = tcp.window;
  mss = tcp.mss;
  scale = tcp.scale;
  octets = tcp.body;
}
