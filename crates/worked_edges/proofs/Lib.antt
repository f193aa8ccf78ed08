mod Wanting
