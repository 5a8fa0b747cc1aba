pub mod CommonLines
